pub mod Going
pub mod Logged
