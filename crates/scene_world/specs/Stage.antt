-- What a stage is seen as: a world that commands change, and notes of what was done.
use Rattle.std.specs.Prelude.{ℕ, List, ◌++◌, Option, Some, None, Result, Ok, Err, if◌then◌else◌}
use Rattle.scene_kinds.specs.declared.refusal.Refusal.{Refusal}
use Rattle.scene_kinds.specs.Answers.{Outcome, Answers}
use Rattle.scene_kinds.specs.declared.entity.Entity.{Entity}
use Rattle.scene_model.specs.World.{World, is_live}
use Rattle.scene_model.specs.Commands.{spawn, despawn, despawn_recursive, insert, remove, set_parent, remove_parent, put_resource, remove_resource}
use Rattle.scene_model.specs.Perform.{Command, Spawn, Despawn, DespawnRecursive, DespawnRecursiveIfAlive, Insert, Remove, SetParent, RemoveParent, PutResource, RemoveResource, answering, Act}

-- a world with what was noted of the commands on it
pub record Staged (N : Type 0) : Type 0 where
  pub world : World
  pub notes : List N

-- where a stage began: the world to which it can be taken back, and the tick that its record keeps
pub record Opening : Type 0 where
  pub world : World
  pub tick : ℕ

-- what a stage notes of an accepted command on a world
abbrev pub Note : Type 0 → Type 0
Note N = World → Command → List N

-- the stage after what a command does to its world: the notes go last, and a refused command leaves none
abbrev pub noting : {A N : Type 0} → Staged N → List N → Outcome A World → Outcome A (Staged N)
noting s notes (Ok p) = Ok (p.0, record { world = p.1; notes = s.notes ++ notes })
noting s notes (Err r) = Err r

-- the call answered what the command gives on the stage's world, with its notes, or found no memory; and after any
-- refusal the stage is as it was
abbrev pub AnswersNoted : {A N : Type 0} → Result A Refusal → (old new : Staged N) → Note N → Command → (World → Outcome A World) → Type 0
AnswersNoted result old new note c command = Answers result old new (noting old (note old.world c) (command old.world))

-- a command on a stage whose answer is made of that of the world's command
abbrev pub noted : {A N : Type 0} → Note N → Staged N → Command → (World → Outcome A World) → (A → Option Entity) → Outcome (Option Entity) (Staged N)
noted note s c command answer = answering answer (noting s (note s.world c) (command s.world))

-- a command on a stage; one that passes over a dead entity is a recursive despawn of a live one, and else nothing
abbrev pub act : {N : Type 0} → Note N → Act (Staged N)
act note s (Spawn cells) = noted note s (Spawn cells) (λ w. spawn w cells) Some
act note s (Despawn e) = noted note s (Despawn e) (λ w. despawn w e) (λ a. None)
act note s (DespawnRecursive e) = noted note s (DespawnRecursive e) (λ w. despawn_recursive w e) (λ a. None)
act note s (DespawnRecursiveIfAlive e) =
    if is_live s.world e then noted note s (DespawnRecursive e) (λ w. despawn_recursive w e) (λ a. None) else Ok (None, s)
act note s (Insert e kind value) = noted note s (Insert e kind value) (λ w. insert w e kind value) (λ a. None)
act note s (Remove e kind) = noted note s (Remove e kind) (λ w. remove w e kind) (λ a. None)
act note s (SetParent child parent) = noted note s (SetParent child parent) (λ w. set_parent w child parent) (λ a. None)
act note s (RemoveParent child) = noted note s (RemoveParent child) (λ w. remove_parent w child) (λ a. None)
act note s (PutResource name value) = noted note s (PutResource name value) (λ w. put_resource w name value) (λ a. None)
act note s (RemoveResource name) = noted note s (RemoveResource name) (λ w. remove_resource w name) (λ a. None)
