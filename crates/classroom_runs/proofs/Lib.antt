pub mod Step
pub mod Alone
pub mod Lived
pub mod Keys
pub mod Theorem
pub mod Made
