pub mod Results
pub mod Replay
pub mod Room
pub mod Examples
