pub mod Format
pub mod Acts
pub mod Encoding
pub mod Text
