pub mod History
pub mod Members
pub mod Pass
pub mod Rule
pub mod Shared
pub mod Steps
