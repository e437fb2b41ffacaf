pub mod Turns
pub mod Writes
