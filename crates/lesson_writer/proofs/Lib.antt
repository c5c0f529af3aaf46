pub mod Rows
pub mod File
pub mod Parts
pub mod Laws
