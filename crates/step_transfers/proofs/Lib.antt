pub mod Sends
pub mod Setup
