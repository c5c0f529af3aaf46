pub mod Copy
pub mod Out
