pub mod Append
pub mod Here
pub mod Refusals
pub mod Examples
