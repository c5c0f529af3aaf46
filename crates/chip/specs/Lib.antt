pub mod Mask
pub mod Record
pub mod Set
pub mod Sound
pub mod Pin
pub mod Same
