pub mod Texts
pub mod Wholes
pub mod Tasks
