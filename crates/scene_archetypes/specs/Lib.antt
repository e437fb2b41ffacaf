pub mod Archetypes
pub mod KindTables
