pub mod Lesson
pub mod Read
pub mod Ticks
pub mod Examples
pub mod Kind
