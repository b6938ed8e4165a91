pub mod Anys
pub mod Events
pub mod Layers
