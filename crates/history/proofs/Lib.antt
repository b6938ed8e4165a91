pub mod Standing
pub mod Last
pub mod Handing
pub mod Losses
pub mod Promises
pub mod Logs
pub mod Answering
