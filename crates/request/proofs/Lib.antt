-- Laws of the decisions and of the record.
pub mod Decided
pub mod Sound
