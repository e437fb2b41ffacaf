-- A queue as a list of commands with a limit, and what applying it did.
use Rattle.std.specs.Prelude.{◌≡◌, ◌<◌, ℕ, List, [], ◌∷◌, ◌++◌, length, nat_lt, take, sum_by, Result, Ok, Err, if◌then◌else◌}
use Rattle.scene_kinds.specs.declared.entity.Entity.{Entity}
use Rattle.scene_kinds.specs.declared.fault.Fault.TheVariants.{QueueFull}
use Rattle.scene_kinds.specs.declared.refusal.Refusal.{Refusal}
use Rattle.scene_kinds.specs.Answers.{Outcome, refuse}
use Rattle.scene_model.specs.Perform.{Act}
use Rattle.scene_machine.specs.Queue.{Request, reached, whole, stopped, play, refused_at}
use Rattle.scene_commands.specs.declared.command.Command.{Command}
use Rattle.scene_queue.specs.declared.queue.Returned.{Returned}
use Rattle.scene_commands.specs.declared.command.Command.TheVariants.{Spawn}

-- the commands, first to last, and how many there may be
pub record QueueState : Type 0 where
  pub limit : ℕ
  pub commands : List Command

-- the limit of a queue for which none is given
abbrev pub usual_limit : ℕ
usual_limit = 67108864

-- a queue with no commands yet
abbrev pub empty_queue : ℕ → QueueState
empty_queue limit = record { limit = limit; commands = [] }

-- how many entities one command will have spawned
abbrev pub spawned_by : Command → ℕ
spawned_by (Spawn cells) = 1
spawned_by c = 0

-- how many entities the commands will have spawned
abbrev pub spawns : List Command → ℕ
spawns commands = sum_by spawned_by commands

-- a command goes last
abbrev pub push_of : {A : Type 0} → QueueState → Command → A → Outcome A QueueState
push_of q c answer = if nat_lt (length q.commands) q.limit then Ok (answer, record q { commands = q.commands ++ c ∷ [] }) else refuse QueueFull

-- the refusal of a call that hands back what it didn't take
abbrev pub refusal_in : {A T : Type 0} → Result A (Returned T) → Result A Refusal
refusal_in (Ok a) = Ok a
refusal_in (Err r) = Err r.refusal

-- the state that so many commands of a queue leave, the first ones
abbrev pub IsLeft : {S : Type 0} → Act S → List Request → ℕ → (old new : S) → Type 0
IsLeft act rs count old new = (es : List Entity) × (play act (take count rs) old ≡ whole (reached new es))

-- the state that some commands of a queue leave, the first ones, and not all
abbrev pub IsPassed : {S : Type 0} → Act S → List Request → (old new : S) → Type 0
IsPassed act rs old new = (count : ℕ) × ((count < length rs) × IsLeft act rs count old new)

-- the fold stopped in this state, at a command whose refusal this is with its place, the queue being the q-th of its
-- frame
abbrev pub Stops : {S : Type 0} → Act S → ℕ → List Request → (old new : S) → Refusal → Type 0
Stops act q rs old new r =
    (at : ℕ) × ((es : List Entity) × ((why : Refusal) × ((play act rs old ≡ stopped (reached new es) at why) × (r ≡ refused_at q at why.fault))))
