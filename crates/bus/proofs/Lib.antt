pub mod Events
pub mod Accepted
pub mod Replies
pub mod Call
