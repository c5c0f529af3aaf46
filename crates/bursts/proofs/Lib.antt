pub mod Part
pub mod Fifo
pub mod Copied
pub mod AtOnce
pub mod Examples
