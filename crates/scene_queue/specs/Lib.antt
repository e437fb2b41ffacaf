pub mod Requests
pub mod Queue
pub mod Frames
