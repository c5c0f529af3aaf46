pub mod Handshake
