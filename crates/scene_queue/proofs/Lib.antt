pub mod Folds
pub mod Frames
pub mod Lone
pub mod Worlds
