-- What an editor's call is to the whole.
use Rattle.std.proofs.Common.{◌≡◌, ℕ, List, [], ◌∷◌, take, Ok, Err, sym, ap, ◌∙◌}
use Rattle.scene_kinds.specs.declared.entity.Entity.{Entity}
use Rattle.scene_kinds.specs.declared.refusal.Refusal.{Refusal}
use Rattle.scene_model.specs.World.{World}
use Rattle.scene_machine.specs.Machine.{Machine, undo, redo}
use Rattle.scene_machine.specs.Frame.{call, spawning_none}
use Rattle.scene_world.specs.Stage.{act}
use Rattle.scene_deltas.specs.Notes.{deltas_of}
use Rattle.scene_journal.specs.Records.{Record, record_of, undone}
use Rattle.scene_journal.specs.Frames.{frame_record}
use Rattle.scene_queue.specs.Queue.{QueueState}
use Rattle.scene_queue.specs.Frames.{frame_of}
use Rattle.scene_schedule.specs.Schedule.{ScheduleState}
use Rattle.scene_schedule.specs.Systems.{advance_of}
use Rattle.scene_undo.specs.Editor.{EditorState, IsRecordOf, at_depth, machine_of}
use Rattle.scene_undo.specs.Stacks.{IsRedone, IsUndone}
use Rattle.scene_session.specs.Calls.{Asked, Submit, Advance, Undo, Redo, machine_call, Done, Undone, Redone, Refused, accepted_answer}
use Rattle.scene_undo.proofs.Machines.{along_newest}
use Rattle.scene_session.specs.Owner.{whole_at_depth}
use Rattle.scene_session.specs.Whole.{Whole, whole_of, moved, accepted_whole, advance_record, notes_of, stepped, step}

pub step_done : (w : Whole) (a : Asked) (es : List Entity) (m : Machine World) → call w.machine (machine_call a) ≡ Ok (es, m) → step w a ≡ (accepted_whole w a m, accepted_answer a es)
step_done w a es m is = ap (stepped w a) is

moved_is : (r : Record) (from old_from old_to : List Record) → old_from ≡ r ∷ from → moved old_from old_to ≡ (from, r ∷ old_to)
moved_is r from old_from old_to is = ap (λ l. moved l old_to) is

-- the record of an advance is what was noted of it
record_is : (schedule : ScheduleState) (w v : World) (es : List Entity) (r : Record) → IsRecordOf (advance_of (act deltas_of) (λ t. t.world) schedule) w v es r
    → advance_record schedule w ≡ r
record_is schedule w v es r of = (λ i. record_of (sym of.tick i) (notes_of (of.noted i)))

-- an accepted frame of queues
pub submitted_whole : (old new : EditorState) (queues : List QueueState) (es : List Entity) → call (machine_of old) (machine_call (Submit queues)) ≡ Ok (es, machine_of new)
    → new.past ≡ take old.depth (frame_record (frame_of queues) old.world ∷ old.past) → new.future ≡ []
    → step (whole_of old) (Submit queues) ≡ (whole_of new, Done es)
submitted_whole old new queues es is past future = step_done (whole_of old) (Submit queues) es (machine_of new) is
    ∙ (λ i. (record { machine = machine_of new; past = sym past i; future = sym future i }, Done es))

-- an accepted frame of systems
pub advanced_whole : (old new : EditorState) (schedule : ScheduleState) (es : List Entity) (r : Record)
    → call (machine_of old) (machine_call (Advance schedule)) ≡ Ok (es, machine_of new)
    → IsRecordOf (advance_of (act deltas_of) (λ t. t.world) schedule) old.world new.world es r → new.past ≡ take old.depth (r ∷ old.past) → new.future ≡ []
    → step (whole_of old) (Advance schedule) ≡ (whole_of new, Done es)
advanced_whole old new schedule es r is of past future = step_done (whole_of old) (Advance schedule) es (machine_of new) is
    ∙ ap (λ (x : Record). (record { machine = machine_of new; past = take old.depth (x ∷ old.past); future = [] }, Done es)) (record_is schedule old.world new.world es r of)
    ∙ (λ i. (record { machine = machine_of new; past = sym past i; future = sym future i }, Done es))

-- an accepted undo
pub undone_whole : (old new : EditorState) → undo (machine_of old) ≡ Ok (tt, machine_of new) → IsUndone old.past old.future new.past new.future
    → step (whole_of old) Undo ≡ (whole_of new, Undone)
undone_whole old new is gone = let m = moved_is gone.0 new.past old.past old.future gone.1.0 in
    step_done (whole_of old) Undo [] (machine_of new) (ap spawning_none is)
    ∙ (λ i. (record { machine = machine_of new; past = (m i).0; future = (m i).1 }, Undone))
    ∙ (λ i. (record { machine = machine_of new; past = new.past; future = sym gone.1.1 i }, Undone))

-- an accepted redo
pub redone_whole : (old new : EditorState) → redo (machine_of old) ≡ Ok (tt, machine_of new)
    → IsRedone old.depth old.past old.future new.past new.future → step (whole_of old) Redo ≡ (whole_of new, Redone)
redone_whole old new is gone = let m = moved_is gone.0 new.future old.future old.past gone.1.0 in
    step_done (whole_of old) Redo [] (machine_of new) (ap spawning_none is)
    ∙ (λ i. (record { machine = machine_of new; past = take old.depth (m i).1; future = (m i).0 }, Redone))
    ∙ (λ i. (record { machine = machine_of new; past = sym gone.1.1 i; future = new.future }, Redone))

-- a refused call
pub refused_whole : (old new : EditorState) (a : Asked) (r : Refusal) → call (machine_of old) (machine_call a) ≡ Err r → new ≡ old → step (whole_of old) a ≡ (whole_of new, Refused r)
refused_whole old new a r is same = ap (stepped (whole_of old) a) is ∙ (λ i. (whole_of (sym same i), Refused r))

-- an editor of another depth
pub depth_set : (depth : ℕ) (s : EditorState) (w : Whole) → whole_of s ≡ w → whole_of (at_depth depth s) ≡ whole_at_depth depth w
depth_set depth s w is =
    (λ i. record (whole_of (at_depth depth s)) { machine = record (machine_of (at_depth depth s)) { past = along_newest undone depth s.past s.world i } })
    ∙ ap (whole_at_depth depth) is
