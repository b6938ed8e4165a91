pub mod Text
pub mod Task
pub mod Losses
