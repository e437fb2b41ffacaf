pub mod Op
pub mod Text
pub mod Walk
pub mod Examples
pub mod Writable
pub mod Laws
