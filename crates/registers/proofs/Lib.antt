pub mod Part
pub mod Read
pub mod Rest
