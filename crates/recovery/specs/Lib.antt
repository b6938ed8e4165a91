pub mod Answers
pub mod Losses
pub mod Columns
