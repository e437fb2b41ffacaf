pub mod Alike
mod AllPasses
mod Bare
pub mod Crossing
mod Earlier
mod Entered
mod FurtherKind
mod Machines
mod OneHistory
mod Performances
pub mod Places
mod Props
mod Replays
mod Turns
mod Wholes
