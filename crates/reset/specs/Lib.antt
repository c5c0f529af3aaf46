pub mod Table
pub mod Reset
pub mod Lines
