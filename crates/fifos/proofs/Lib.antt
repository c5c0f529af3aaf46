pub mod Past
pub mod Read
