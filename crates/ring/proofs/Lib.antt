pub mod Packet
pub mod Copy
pub mod Places
pub mod Queue
pub mod Laws
pub mod Single
