pub mod Theorem
pub mod Enumeration
pub mod Made
