-- Laws of the deltas of commands: each command that a valid world accepts is its deltas, made one after another; and
-- how many they are.
use Rattle.std.specs.Prelude.{◌≡◌, ℕ, ◌+◌, ◌≤◌, List, [], ◌∷◌, true, Option, Ok, length, sum, if◌then◌else◌}
use Rattle.std.specs.List.{flat_map}
use Rattle.scene_kinds.specs.declared.entity.Entity.{Entity}
use Rattle.scene_links.specs.Forest.{Forest, children_of, post_in}
use Rattle.scene_model.specs.World.{World, is_live}
use Rattle.scene_model.specs.Valid.{IsValid}
use Rattle.scene_model.specs.Perform.{Command, DespawnRecursive, DespawnRecursiveIfAlive, perform, are_in_range}
use Rattle.scene_world.specs.Stage.{Note}
use Rattle.scene_deltas.specs.declared.delta.Delta.{Delta}
use Rattle.scene_deltas.specs.Deltas.{fwd_all, AllFitOn}
use Rattle.scene_deltas.specs.Notes.{deltas_of}

-- these deltas lead from one world to another
pub record LeadTo (ds : List Delta) (w v : World) : Type 0 where
  pub fit : AllFitOn ds w
  pub made : v ≡ fwd_all ds w

-- an accepted command is the deltas that it notes
abbrev pub CommandsAreDeltas : Type 0
CommandsAreDeltas = (w v : World) (c : Command) (a : Option Entity) → IsValid w → are_in_range c ≡ true → perform w c ≡ Ok (a, v)
    → LeadTo (deltas_of w c) w v

-- those below an entity
abbrev pub descendants : Forest → Entity → List Entity
descendants f e = flat_map (post_in (length f.entries) f) (children_of f e)

-- how many descendants a recursive despawn takes along
abbrev pub along : Note ℕ
along w (DespawnRecursive e) = length (descendants w.children e) ∷ []
along w (DespawnRecursiveIfAlive e) = if is_live w e then length (descendants w.children e) ∷ [] else []
along w c = []

-- a command makes one delta at most, and one for each descendant that it takes along
abbrev pub CommandsMakeFewDeltas : Type 0
CommandsMakeFewDeltas = (w : World) (c : Command) → length (deltas_of w c) ≤ 1 + sum (along w c)
