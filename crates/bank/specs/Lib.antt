pub mod Slots
pub mod Changes
pub mod Chains
pub mod ChainsLemmas
