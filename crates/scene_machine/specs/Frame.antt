-- Frames, those of queues on whatever commands can be performed on, and the total step of the machine of saved worlds.
use Rattle.std.specs.Prelude.{ℕ, ◌+◌, List, [], ◌∷◌, ◌++◌, Option, Some, None, Result, Ok, Err}
use Rattle.scene_kinds.specs.declared.entity.Entity.{Entity}
use Rattle.scene_kinds.specs.declared.refusal.Refusal.{Refusal}
use Rattle.scene_kinds.specs.Answers.{Outcome}
use Rattle.scene_model.specs.World.{World}
use Rattle.scene_model.specs.Commands.{and_then, raise_tick}
use Rattle.scene_model.specs.Perform.{perform, Act}
use Rattle.scene_machine.specs.Queue.{Request, Ended, play, refused_at}
use Rattle.scene_machine.specs.Machine.{Machine, submitted, undo, redo}

-- what a queue came to, by the first refusal, if there is one, with its place
abbrev pub all_or_refused : {S : Type 0} → ℕ → S → List Entity → Option (ℕ × Refusal) → Outcome (List Entity) S
all_or_refused q s es None = Ok (es, s)
all_or_refused q s es (Some r) = Err (refused_at q r.0 r.1.fault)

-- the same of the way that its commands went
abbrev pub whole_or_refused : {S : Type 0} → ℕ → Ended S → Outcome (List Entity) S
whole_or_refused q e = all_or_refused q e.progress.state e.progress.spawned e.refused

module _ {S : Type 0} (act : Act S) where
  -- a queue as a whole, the q-th of its frame: the entities that it spawned and the state after it, or its first
  -- refusal
  abbrev pub queue : ℕ → List Request → S → Outcome (List Entity) S
  queue q rs s = whole_or_refused q (play act rs s)

  -- the queues one after another, counted from q, and the entities of all of them
  abbrev pub queues_from : ℕ → List (List Request) → S → Outcome (List Entity) S
  queues_from q [] s = Ok ([], s)
  queues_from q (rs ∷ rss) s = and_then (queue q rs s) (λ es t. and_then (queues_from (q + 1) rss t) (λ fs u. Ok (es ++ fs, u)))

-- a frame of whatever kind, by what it does to a world: it raises the tick, and then it is done; a refusal gives no
-- world
abbrev pub framed : (World → Outcome (List Entity) World) → World → Outcome (List Entity) World
framed does w = and_then (raise_tick w) (λ a v. does v)

-- a frame of queues
abbrev pub frame : List (List Request) → World → Outcome (List Entity) World
frame queues = framed (queues_from perform 0 queues)

-- what a tool asks of the machine
pub data Call : Type 0 where
  -- a frame of queues
  Submit : List (List Request) → Call
  -- a frame of another kind, by what it does to a world
  Advance : (World → Outcome (List Entity) World) → Call
  Undo : Call
  Redo : Call

-- the answer of a call: the entities that a frame spawned (none for an undo or a redo), or a refusal
abbrev pub Reply : Type 0
Reply = Result (List Entity) Refusal

-- an undo or a redo as a call, which spawns nothing
abbrev pub spawning_none : Outcome (Unit {0}) (Machine World) → Outcome (List Entity) (Machine World)
spawning_none (Ok p) = Ok ([], p.1)
spawning_none (Err r) = Err r

-- what a call does to the machine
abbrev pub call : Machine World → Call → Outcome (List Entity) (Machine World)
call m (Submit queues) = submitted m (frame queues m.now)
call m (Advance does) = submitted m (framed does m.now)
call m Undo = spawning_none (undo m)
call m Redo = spawning_none (redo m)

-- after a refusal the machine is as it was
abbrev pub replied : Machine World → Outcome (List Entity) (Machine World) → Machine World × Reply
replied m (Ok p) = (p.1, Ok p.0)
replied m (Err r) = (m, Err r)

-- the total step of the machine
abbrev pub step : Machine World → Call → Machine World × Reply
step m c = replied m (call m c)

-- the machine after calls
abbrev pub after_calls : Machine World → List Call → Machine World
after_calls m [] = m
after_calls m (c ∷ cs) = after_calls (step m c).0 cs

-- the replies to calls, one after another
abbrev pub replies : Machine World → List Call → List Reply
replies m [] = []
replies m (c ∷ cs) = (step m c).1 ∷ replies (step m c).0 cs
