-- What a record has of a spawn.
use Rattle.std.specs.Prelude.{◌≡◌, ℕ, List, Bool, Some}
use Rattle.scene_kinds.specs.declared.entity.Entity.{Entity}
use Rattle.scene_kinds.specs.declared.cell.Cell.{Cell}
use Rattle.scene_kinds.specs.declared.value.Value.{Value}
use Rattle.scene_alloc.specs.Slots.{takes_new_slot, take_of}
use Rattle.scene_model.specs.World.{World}
use Rattle.scene_model.specs.Commands.{new_cells}
use Rattle.scene_model.specs.Raw.{taken_entity}

-- the entity that the slots of a world give, the cells of these components, and whether the slot is a new one
pub record IsSpawnOf (w : World) (components : List (ℕ × Value)) (entity : Entity) (cells : List (ℕ × Cell)) (fresh : Bool) : Type 0 where
  pub next : taken_entity (take_of w.slots) ≡ Some entity
  pub made : cells ≡ new_cells w.tick components
  pub slot : fresh ≡ takes_new_slot w.slots
