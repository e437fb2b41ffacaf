pub mod Copies
pub mod KindSets
pub mod Rooms
pub mod RowKinds
pub mod RunRows
pub mod Stored
pub mod WrittenHomes
