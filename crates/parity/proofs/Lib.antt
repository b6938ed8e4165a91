pub mod Sums
pub mod Columns
pub mod Gaps
pub mod Solving
pub mod Changes
pub mod Freedom
