pub mod Lines
pub mod Acts
pub mod Doing
pub mod Planned
pub mod Slots
pub mod Runs
