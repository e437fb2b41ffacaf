-- what a call may answer
pub use Rattle.scene_kinds.specs.Answers
-- kinds, and which values fit them
pub use Rattle.scene_kinds.specs.Schema
-- worlds, the machine of saved worlds, and its calls
pub use Rattle.scene_model.specs.World
pub use Rattle.scene_machine.specs.Machine
pub use Rattle.scene_machine.specs.Frame
-- queues, and what the queues of a frame ask of a world
pub use Rattle.scene_queue.specs.Queue
pub use Rattle.scene_queue.specs.Frames
-- editors and their cursors
pub use Rattle.scene_undo.specs.Cursor
pub use Rattle.scene_undo.specs.Editor
-- filters, and what passes list
pub use Rattle.scene_systems.specs.Filter
pub use Rattle.scene_pass.specs.Pass
-- which lists of phases are schedules, and what an advance by one does
pub use Rattle.scene_schedule.specs.Schedule
pub use Rattle.scene_schedule.specs.Systems
-- the texts of a world and of an editor, and the world and the editor of a text
pub use Rattle.scene_json_forms.specs.Outcome
pub use Rattle.scene_file.specs.Saving
pub use Rattle.scene_file.specs.Scene
pub use Rattle.scene_file.specs.EditorScene
-- locks and their passes, and histories of sessions
pub use Rattle.scene_lock.specs.Pass as Passes
pub use Rattle.scene_lock.specs.History
-- the calls of a state, its replies and what a session has seen
pub use Rattle.scene_session.specs.Calls
pub use Rattle.scene_session.specs.State
pub use Rattle.scene_session.specs.Session
pub use Rattle.scene_session.specs.declared.call.Call
pub use Rattle.scene_session.specs.declared.call.Reply
pub use Rattle.scene_session.specs.declared.call.Stopped
pub use Rattle.scene_session.specs.declared.entry.Entry
-- what lists of changes rely on: worlds that go on from others
pub mod GoesOn
pub mod Laws
pub mod Order
pub mod Since
