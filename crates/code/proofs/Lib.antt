pub mod Blocks
pub mod Loops
