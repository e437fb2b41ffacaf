pub mod Changes
pub mod Examples
pub mod InPlace
pub mod Listed
pub mod Lone
pub mod Pass
