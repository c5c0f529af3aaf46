pub mod Command
pub mod Reader
