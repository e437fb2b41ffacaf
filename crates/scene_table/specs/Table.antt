-- What contracts see of a table, and of one cell in it.
use Rattle.std.specs.Prelude.{◌<◌, ℕ, length, List, map, All, Option, slice_get, slice_set}
use Rattle.std.specs.Option.{option_map, option_flatten, unwrap_or}
use Rattle.scene_kinds.specs.Cells.{HasKinds, cell_of, with_cell, without_cell}
use Rattle.scene_kinds.specs.declared.cell.Cell.{Cell}
use Rattle.scene_kinds.specs.declared.cells.Row.{Row}
use Rattle.scene_kinds.specs.KindSet.{KindSet}

-- the table's kind set, its rows, and for how many rows it has memory: the least over the entities and all columns
pub record TableState : Type 0 where
  pub mask : KindSet
  pub rows : List Row
  pub capacity : ℕ

-- there is memory for one more row
abbrev pub HasRoom : TableState → Type 0
HasRoom t = length t.rows < t.capacity

-- each row has just the kinds of a set
abbrev pub AllHave : KindSet → List Row → Type 0
AllHave mask rows = All (HasKinds mask) rows

-- the cell of a kind in the row at a place, if that row is there and has the kind
abbrev pub cell_at : List Row → ℕ → ℕ → Option Cell
cell_at rows at kind = option_flatten (option_map (λ row. cell_of row.cells kind) (slice_get rows at))

-- the row with this cell of a kind
abbrev pub row_with_cell : Row → ℕ → Cell → Row
row_with_cell row kind cell = record row { cells = with_cell row.cells kind cell }

-- the row without the cell of a kind
abbrev pub row_without_cell : Row → ℕ → Row
row_without_cell row kind = record row { cells = without_cell row.cells kind }

-- the rows with this cell in the row at a place; every other row and cell is as it was
abbrev pub rows_with_cell : List Row → ℕ → ℕ → Cell → List Row
rows_with_cell rows at kind cell = unwrap_or (option_map (λ row. slice_set rows at (row_with_cell row kind cell)) (slice_get rows at)) rows

-- the cells of a kind, row by row
abbrev pub cells_of_kind : List Row → ℕ → List (Option Cell)
cells_of_kind rows kind = map (λ row. cell_of row.cells kind) rows
