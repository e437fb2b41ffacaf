pub mod Fault
pub mod Files
pub mod Head
pub mod Store
