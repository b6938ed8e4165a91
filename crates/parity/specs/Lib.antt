pub mod Stripe
pub mod Ways
pub mod Theorems
