pub mod Parts
pub mod Rules
pub mod Marks
pub mod Climbs
pub mod Laws
pub mod Seen
pub mod Examples
