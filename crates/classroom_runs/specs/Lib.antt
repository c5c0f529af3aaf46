pub mod Orders
pub mod Made
