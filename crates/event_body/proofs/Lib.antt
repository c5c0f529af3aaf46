pub mod Round
pub mod Refusals
pub mod Examples
