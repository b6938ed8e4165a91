pub mod Primes
pub mod Rows
pub mod Diagonals
