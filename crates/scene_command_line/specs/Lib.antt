pub mod Asks
pub mod Mistakes
pub mod Plain
pub mod Words
