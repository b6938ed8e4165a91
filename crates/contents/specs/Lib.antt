pub mod Columns
pub mod Refusals
pub mod Records
pub mod Shapes
pub mod Answers
pub mod Changes
pub mod Theorems
pub mod Rebuilds
