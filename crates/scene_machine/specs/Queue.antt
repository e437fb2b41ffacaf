-- A queue of commands as a fold: over a world, or over whatever else commands can be performed on.
use Rattle.std.specs.Prelude.{ℕ, ◌+◌, List, [], ◌∷◌, ◌++◌, Option, Some, None, Ok, Err}
use Rattle.scene_kinds.specs.declared.entity.Entity.{Entity}
use Rattle.scene_kinds.specs.declared.fault.Fault.{Fault}
use Rattle.scene_kinds.specs.declared.fault.Fault.TheVariants.{BadLocal, NoMemory}
use Rattle.scene_kinds.specs.declared.refusal.Refusal.{Refusal}
use Rattle.scene_kinds.specs.Answers.{Outcome, refusal_of, refuse}
use Rattle.scene_model.specs.Perform.{Command, Act}

-- a command as a queue holds it: the command that it is, once the entities are known that its queue has spawned so far;
-- none where it names one of them that isn't there yet
abbrev pub Request : Type 0
Request = List Entity → Option Command

-- a command that names no entity of its queue
abbrev pub known : Command → Request
known c spawned = Some c

-- how far a queue has come: the state, and the entities that the queue has spawned, in order
pub record Progress (S : Type 0) : Type 0 where
  pub state : S
  pub spawned : List Entity

-- a state with the entities spawned on the way to it
abbrev pub reached : {S : Type 0} → S → List Entity → Progress S
reached s es = record { state = s; spawned = es }

-- the entities with the one that a command made, if it made one
abbrev pub and_spawned : List Entity → Option Entity → List Entity
and_spawned es None = es
and_spawned es (Some e) = es ++ e ∷ []

-- where a queue ended: after its last command, or before the first one that was refused, which is counted from 0
pub record Ended (S : Type 0) : Type 0 where
  pub progress : Progress S
  pub refused : Option (ℕ × Refusal)

-- a queue of which each command was accepted
abbrev pub whole : {S : Type 0} → Progress S → Ended S
whole p = record { progress = p; refused = None }

-- a queue that stopped at its i-th command, with the refusal
abbrev pub stopped : {S : Type 0} → Progress S → ℕ → Refusal → Ended S
stopped p i r = record { progress = p; refused = Some (i, r) }

-- what follows a command, unless it is refused
abbrev pub unless_refused : {S : Type 0} → ℕ → Progress S → Outcome (Option Entity) S → (Progress S → Ended S) → Ended S
unless_refused i p (Ok q) rest = rest (reached q.1 (and_spawned p.spawned q.0))
unless_refused i p (Err r) rest = stopped p i r

module _ {S : Type 0} (act : Act S) where
  -- a command whose targets are known; a local name that stands for nothing is refused
  abbrev pub act_known : S → Option Command → Outcome (Option Entity) S
  act_known s None = refuse BadLocal
  act_known s (Some c) = act s c

  -- one command of a queue
  abbrev pub request : Request → Progress S → Outcome (Option Entity) S
  request r p = act_known p.state (r p.spawned)

  -- the commands of a queue one after another, counted from i
  abbrev pub play_from : ℕ → List Request → Progress S → Ended S
  play_from i [] p = whole p
  play_from i (r ∷ rs) p = unless_refused i p (request r p) (play_from (i + 1) rs)

  -- a whole queue
  abbrev pub play : List Request → S → Ended S
  play rs s = play_from 0 rs (reached s [])

-- a refusal of a frame has its place: the phase (0, where there are no systems), the queue and the command; want of
-- memory has none
abbrev pub refused_at : ℕ → ℕ → Fault → Refusal
refused_at q i NoMemory = refusal_of NoMemory
refused_at q i fault = record { fault = fault; place = Some (record { phase = 0; queue = q; command = i }) }
