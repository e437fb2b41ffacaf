-- Where the row of an entity stands, as a table and a place.
use Rattle.std.specs.Prelude.{◌≡◌, ℕ, Some, slice_get}
use Rattle.scene_kinds.specs.declared.entity.Entity.{Entity}
use Rattle.scene_kinds.specs.declared.cells.Row.{Row}
use Rattle.scene_table.specs.Table.{TableState}
use Rattle.scene_model.specs.World.{World, row_of}

-- an entity's row stands in the table of this kind set, and in these rows at this place
pub record Stands (w : World) (e : Entity) (table : TableState) (place : ℕ) : Type 0 where
  pub row : Row
  pub found : row_of w e ≡ Some (record { mask = table.mask; place = place }, row)
  pub there : slice_get table.rows place ≡ Some row
