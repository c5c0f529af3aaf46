pub mod Control
pub mod Written
