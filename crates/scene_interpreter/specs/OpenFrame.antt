-- A frame that a script has opened.
use Rattle.std.specs.Prelude.{ℕ, ◌+◌, List, [], ◌∷◌, ◌++◌, Option, Some, None, Ok, Err, length}
use Rattle.scene_kinds.specs.Answers.{Outcome}
use Rattle.scene_kinds.specs.declared.value.Value.{Value}
use Rattle.scene_commands.specs.declared.command.Command.{Command}
use Rattle.scene_commands.specs.declared.command.Command.TheVariants.{Spawn}
use Rattle.scene_commands.specs.declared.target.Target.{Target}
use Rattle.scene_commands.specs.declared.target.Target.TheVariants.{New}
use Rattle.scene_queue.specs.Queue.{QueueState, usual_limit, empty_queue, push_of, spawns}

-- the queues that are complete, and the last one, into which commands go
pub record Opened : Type 0 where
  pub complete : List QueueState
  pub last : QueueState

-- a frame of one empty queue
abbrev pub new_frame : Opened
new_frame = record { complete = []; last = empty_queue usual_limit }

-- what a call on the last queue makes of the frame; a refused one leaves it
abbrev pub and_last : {A : Type 0} → Opened → Outcome A QueueState → Outcome A Opened
and_last f (Ok p) = Ok (p.0, record f { last = p.1 })
and_last f (Err r) = Err r

-- a command goes last in the last queue, which may be full
abbrev pub with_command : Opened → Command → Outcome (Unit {0}) Opened
with_command f command = and_last f (push_of f.last command tt)

-- a spawn goes last in the last queue, and is answered by the name that later commands of the queue have for its entity
abbrev pub with_spawn : Opened → List (ℕ × Value) → Outcome Target Opened
with_spawn f cells = and_last f (push_of f.last (Spawn cells) (New (spawns f.last.commands)))

-- a further empty queue
abbrev pub with_queue : Opened → Opened
with_queue f = record { complete = f.complete ++ f.last ∷ []; last = empty_queue usual_limit }

-- all its queues, first to last
abbrev pub queues_of : Opened → List QueueState
queues_of f = f.complete ++ f.last ∷ []

-- how many queues are open
abbrev pub queue_count : Option Opened → ℕ
queue_count None = 0
queue_count (Some f) = length f.complete + 1
