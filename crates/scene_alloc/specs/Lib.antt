pub mod Ends
pub mod Slots
