-- The commands as one type, and what each of them does to a world: the nine of a world, and the one that passes over a
-- dead entity.
use Rattle.std.specs.Prelude.{ℕ, List, Bool, true, Option, Some, None, Ok, Err}
use Rattle.std.specs.List.{list_all}
use Rattle.scene_kinds.specs.declared.entity.Entity.{Entity}
use Rattle.scene_kinds.specs.declared.value.Value.{Value}
use Rattle.scene_kinds.specs.Answers.{Outcome}
use Rattle.scene_kinds.specs.Ranges.{is_in_range}
use Rattle.scene_model.specs.World.{World}
use Rattle.scene_model.specs.Commands.{spawn, despawn, despawn_recursive, despawn_recursive_if_alive, insert, remove, set_parent, remove_parent, put_resource, remove_resource}

-- a command on a world, with all that it is given
pub data Command : Type 0 where
  -- the cells, each with its kind
  Spawn : List (ℕ × Value) → Command
  Despawn : Entity → Command
  DespawnRecursive : Entity → Command
  DespawnRecursiveIfAlive : Entity → Command
  Insert : Entity → ℕ → Value → Command
  Remove : Entity → ℕ → Command
  -- the child, and its parent
  SetParent : Entity → Entity → Command
  RemoveParent : Entity → Command
  -- the name, by its bytes
  PutResource : List ℕ → Value → Command
  RemoveResource : List ℕ → Command

-- what a command does to a state; its answer is the entity that a spawn made, and none of the others has one
abbrev pub Act : Type 0 → Type 0
Act S = S → Command → Outcome (Option Entity) S

-- the values that a command gives are ones that their types can hold, as every value of a program is (`Value::shape`
-- says so)
abbrev pub are_in_range : Command → Bool
are_in_range (Spawn cells) = list_all (λ c. is_in_range c.1) cells
are_in_range (Insert e kind value) = is_in_range value
are_in_range (PutResource name value) = is_in_range value
are_in_range c = true

-- an outcome with another answer
abbrev pub answering : {A B W : Type 0} → (A → B) → Outcome A W → Outcome B W
answering f (Ok p) = Ok (f p.0, p.1)
answering f (Err r) = Err r

-- a command's outcome: its answer is the entity that a spawn made, and none of the others has one
abbrev pub perform : World → Command → Outcome (Option Entity) World
perform w (Spawn cells) = answering Some (spawn w cells)
perform w (Despawn e) = answering (λ a. None) (despawn w e)
perform w (DespawnRecursive e) = answering (λ a. None) (despawn_recursive w e)
perform w (DespawnRecursiveIfAlive e) = answering (λ a. None) (despawn_recursive_if_alive w e)
perform w (Insert e kind value) = answering (λ a. None) (insert w e kind value)
perform w (Remove e kind) = answering (λ a. None) (remove w e kind)
perform w (SetParent child parent) = answering (λ a. None) (set_parent w child parent)
perform w (RemoveParent child) = answering (λ a. None) (remove_parent w child)
perform w (PutResource name value) = answering (λ a. None) (put_resource w name value)
perform w (RemoveResource name) = answering (λ a. None) (remove_resource w name)
