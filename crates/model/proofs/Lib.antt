pub mod Refusals
pub mod Loop
pub mod Keeps
pub mod Books
pub mod Runs
