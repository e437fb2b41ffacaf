-- What a record has of an insert or a remove: where the row stands, and the cell of a kind in it.
use Rattle.std.specs.Prelude.{ℕ, Option}
use Rattle.std.specs.Option.{option_map}
use Rattle.scene_kinds.specs.declared.entity.Entity.{Entity}
use Rattle.scene_kinds.specs.declared.cell.Cell.{Cell}
use Rattle.scene_kinds.specs.Cells.{cell_of}
use Rattle.scene_model.specs.World.{World, row_of}

-- the place of a live entity's row in its table, and the row's cell of a kind, if it has that kind
abbrev pub placed_cell : World → Entity → ℕ → Option (ℕ × Option Cell)
placed_cell w e kind = option_map (λ p. (p.0.place, cell_of p.1.cells kind)) (row_of w e)
