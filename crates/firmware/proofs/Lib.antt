-- Laws of the answer and of the registers.
pub mod Laws
pub mod Registers
