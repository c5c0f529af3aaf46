pub mod Table
pub mod Printed
pub mod Send
