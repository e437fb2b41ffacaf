-- What a raw change asks for, from a delta that fits.
use Rattle.std.proofs.Common.{◌≡◌, ℕ, Bool, true, List, Option, subst, sym}
use Rattle.std.proofs.lemmas.Bool.{and_parts}
use Rattle.scene_kinds.specs.declared.entity.Entity.{Entity}
use Rattle.scene_kinds.specs.declared.cell.Cell.{Cell}
use Rattle.scene_resources.specs.Resources.{cell_of as resource_of}
use Rattle.scene_model.specs.World.{World}
use Rattle.scene_model.specs.Raw.{cells_of}
use Rattle.scene_model.specs.Can.{has_row, has_cell, is_good_cell, can_move, can_shift, can_set_cell, can_set_resource}
use Rattle.scene_model.proofs.CanParts.{set_resource}

module _ (w : World) where
  pub cell_moves : (e : Entity) (place kind : ℕ) (cell : Cell) (inward : Bool) → can_shift w e place kind cell inward ≡ true → can_move w (cells_of w e) kind cell inward ≡ true
  cell_moves e place kind cell inward can = (and_parts (has_row w e place (cells_of w e)) (can_move w (cells_of w e) kind cell inward) can).1

  pub cell_is_good : (e : Entity) (kind : ℕ) (before after : Cell) → can_set_cell w e kind before after ≡ true → is_good_cell w kind after ≡ true
  cell_is_good e kind before after can = (and_parts (has_cell (cells_of w e) kind before) (is_good_cell w kind after) can).1

  -- whatever the resource has now
  pub from_now : (name : List ℕ) (before after : Option Cell) → can_set_resource w name before after ≡ true → can_set_resource w name (resource_of w.resources name) after ≡ true
  from_now name before after can = subst (λ o. can_set_resource w name o after ≡ true) (sym ((set_resource w name before after).0 can).now) can
