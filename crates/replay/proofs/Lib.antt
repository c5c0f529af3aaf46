pub mod Numbers
pub mod Put
pub mod Turn
pub mod Entries
pub mod Most
pub mod Call
pub mod Theorem
pub mod Examples
