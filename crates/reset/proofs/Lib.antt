pub mod Law
pub mod Lines
pub mod Effects
