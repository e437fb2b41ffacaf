pub mod Steps
pub mod Printing
pub mod Questions
