pub mod CellLists
pub mod KindNames
pub mod SameLists
pub mod Walked
