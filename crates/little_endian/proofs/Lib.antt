pub mod Number
pub mod Put
