pub mod Places
pub mod Remapped
pub mod Rules
pub mod Tables
pub mod Laws
pub mod Tries
