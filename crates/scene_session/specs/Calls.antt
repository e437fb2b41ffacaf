-- What calls ask, and what replies tell, without the room of their lists.
use Rattle.std.specs.Prelude.{ℕ, List, length}
use Rattle.scene_kinds.specs.declared.entity.Entity.{Entity}
use Rattle.scene_kinds.specs.declared.refusal.Refusal.{Refusal}
use Rattle.scene_model.specs.Perform.{perform}
use Rattle.scene_machine.specs.Frame as machine
use Rattle.scene_queue.specs.Queue.{QueueState}
use Rattle.scene_queue.specs.Frames.{frame_of}
use Rattle.scene_schedule.specs.Schedule.{ScheduleState}
use Rattle.scene_schedule.specs.Systems.{advance_of}
use Rattle.scene_session.specs.declared.call.Call.{Call}
use Rattle.scene_session.specs.declared.call.Call.TheVariants as call
use Rattle.scene_session.specs.declared.call.Reply.{Reply}
use Rattle.scene_session.specs.declared.call.Reply.TheVariants as reply

-- what a call asks
pub data Asked : Type 0 where
  -- a frame of these queues
  Submit : List QueueState → Asked
  -- a frame of the systems of this schedule
  Advance : ScheduleState → Asked
  Undo : Asked
  Redo : Asked

-- what a call asks
abbrev pub asked : Call → Asked
asked (call.Submit queues) = Submit queues.items
asked (call.Advance schedule) = Advance schedule
asked call.Undo = Undo
asked call.Redo = Redo

-- how many queues a call has
abbrev pub queue_count : Call → ℕ
queue_count (call.Submit queues) = length queues.items
queue_count c = 0

-- the same as a call of the machine of saved worlds
abbrev pub machine_call : Asked → machine.Call
machine_call (Submit queues) = machine.Submit (frame_of queues)
machine_call (Advance schedule) = machine.Advance (advance_of perform (λ w. w) schedule)
machine_call Undo = machine.Undo
machine_call Redo = machine.Redo

-- what a reply tells
pub data Answer : Type 0 where
  -- the frame was accepted, and spawned these entities
  Done : List Entity → Answer
  Undone : Answer
  Redone : Answer
  Refused : Refusal → Answer

-- what a reply to a call tells
abbrev pub told : Reply → Answer
told (reply.Done entities) = Done entities.items
told reply.Undone = Undone
told reply.Redone = Redone
told (reply.Refused r) = Refused r

-- the answer to an accepted call, which spawned these entities
abbrev pub accepted_answer : Asked → List Entity → Answer
accepted_answer (Submit queues) es = Done es
accepted_answer (Advance schedule) es = Done es
accepted_answer Undo es = Undone
accepted_answer Redo es = Redone
