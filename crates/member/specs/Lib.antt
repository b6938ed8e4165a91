pub mod Faults
pub mod Meaning
pub mod Changes
pub mod Runs
pub mod RunsLemmas
pub mod Outcomes
