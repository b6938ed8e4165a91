pub mod Field
pub mod Division
pub mod Mixing
pub mod Terms
pub mod Theorems
