pub mod Answer
pub mod Registers
pub mod Run
