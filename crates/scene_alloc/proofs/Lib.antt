pub mod Decided
pub mod Elsewhere
pub mod Ends
pub mod Moves
pub mod SlotLaws
pub mod SlotParts
pub mod Written
