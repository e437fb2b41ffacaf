pub mod Resources
pub mod Examples
pub mod Entries
