pub mod Reply
pub mod Spi
pub mod Call
pub mod Book
pub mod Condition
