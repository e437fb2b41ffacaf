-- a state, its lock and passes may go over to other threads
pub use Rattle.scene_session.proofs.Crossing
pub mod Advances
pub mod CellsFrom
pub mod CommandsOnTheWay
pub mod FramesGoOn
pub mod Histories
pub mod Leaves
pub mod MachinesGoOn
pub mod RowsFrom
pub mod TwoWorlds
