-- The machine of saved worlds, with the records that an editor keeps of its frames, and its one step.
use Rattle.std.specs.Prelude.{◌≡◌, List, [], ◌∷◌, take, Ok, Err}
use Rattle.scene_kinds.specs.declared.entity.Entity.{Entity}
use Rattle.scene_kinds.specs.Answers.{Outcome}
use Rattle.scene_model.specs.World.{World}
use Rattle.scene_machine.specs.Machine.{Machine}
use Rattle.scene_machine.specs.Frame.{call}
use Rattle.scene_world.specs.Stage.{Staged, act}
use Rattle.scene_deltas.specs.declared.delta.Delta.{Delta}
use Rattle.scene_deltas.specs.Notes.{deltas_of}
use Rattle.scene_journal.specs.Records.{Record, record_of, raised}
use Rattle.scene_journal.specs.Frames.{frame_record}
use Rattle.scene_queue.specs.Frames.{frame_of}
use Rattle.scene_schedule.specs.Schedule.{ScheduleState}
use Rattle.scene_schedule.specs.Systems.{advance_of}
use Rattle.scene_undo.specs.Editor.{EditorState, machine_of}
use Rattle.scene_session.specs.Calls.{Asked, Submit, Advance, Undo, Redo, machine_call, Answer, Refused, accepted_answer, asked, told}
use Rattle.scene_session.specs.declared.entry.Entry.{Entry}

-- the machine, the records that are kept of the frames before, the newest first, and those of the frames that were
-- undone, the next one first
pub record Whole : Type 0 where
  pub machine : Machine World
  pub past : List Record
  pub future : List Record

-- what an editor is
abbrev pub whole_of : EditorState → Whole
whole_of s = record { machine = machine_of s; past = s.past; future = s.future }

-- what a frame noted, where it was accepted
abbrev pub notes_of : Outcome (List Entity) (Staged Delta) → List Delta
notes_of (Ok p) = p.1.notes
notes_of (Err r) = []

-- the record of an advance by a schedule that a world accepts
abbrev pub advance_record : ScheduleState → World → Record
advance_record schedule w =
    record_of w.tick (notes_of (advance_of (act deltas_of) (λ t. t.world) schedule (record { world = raised w; notes = [] })))

-- the first record of the one list goes to the other
abbrev pub moved : List Record → List Record → List Record × List Record
moved [] to = ([], to)
moved (r ∷ from) to = (from, r ∷ to)

-- the newest of these records, as many as the machine has depth
abbrev pub newest : Whole → List Record → List Record
newest w rs = take w.machine.depth rs

-- the whole after an accepted frame: its record is kept, and those of what was undone are forgotten
abbrev pub framed_whole : Whole → Record → Machine World → Whole
framed_whole w r m = record { machine = m; past = newest w (r ∷ w.past); future = [] }

-- the whole after an accepted call that made this of the machine
abbrev pub accepted_whole : Whole → Asked → Machine World → Whole
accepted_whole w (Submit queues) m = framed_whole w (frame_record (frame_of queues) w.machine.now) m
accepted_whole w (Advance schedule) m = framed_whole w (advance_record schedule w.machine.now) m
accepted_whole w Undo m = record { machine = m; past = (moved w.past w.future).0; future = (moved w.past w.future).1 }
accepted_whole w Redo m = record { machine = m; past = newest w (moved w.future w.past).1; future = (moved w.future w.past).0 }

-- the whole and the answer, by what the call came to on the machine; a refusal is an answer, and leaves the whole
abbrev pub stepped : Whole → Asked → Outcome (List Entity) (Machine World) → Whole × Answer
stepped w a (Ok p) = (accepted_whole w a p.1, accepted_answer a p.0)
stepped w a (Err r) = (w, Refused r)

-- one call
abbrev pub step : Whole → Asked → Whole × Answer
step w a = stepped w a (call w.machine (machine_call a))

-- ---- entries

-- the whole after an entry
abbrev pub next : Whole → Entry → Whole
next w e = (step w (asked e.call)).0

-- the entry has the answer of the whole
abbrev pub IsTrue : Whole → Entry → Type 0
IsTrue w e = told e.reply ≡ (step w (asked e.call)).1
