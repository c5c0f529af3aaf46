pub mod Sound
pub mod Same
