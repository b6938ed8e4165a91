pub mod Blocks
pub mod Codes
pub mod Answers
