pub mod Runs
pub mod Enumeration
pub mod Made
