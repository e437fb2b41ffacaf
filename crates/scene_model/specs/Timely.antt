-- Whether the cells of a world were added no later than they were changed, and changed no later than a tick.
use Rattle.std.specs.Prelude.{ℕ, Bool, true, List, Option, Some, None}
use Rattle.std.specs.List.{list_all}
use Rattle.scene_kinds.specs.declared.cells.Row.{Row}
use Rattle.scene_resources.specs.Resources.{NamedCells, names_of, cell_of}
use Rattle.scene_table.specs.Tables.{Tables, rows_at, masks_of}
use Rattle.scene_model.specs.Valid.{is_timely}

-- a test of what may be missing, which passes then
abbrev pub if_some : {A : Type 0} → Option A → (A → Bool) → Bool
if_some None test = true
if_some (Some x) test = test x

-- each cell of a row
abbrev pub row_is_timely : ℕ → Row → Bool
row_is_timely tick row = list_all (λ c. is_timely tick c.1) row.cells

-- each of rows
abbrev pub rows_are_timely : ℕ → List Row → Bool
rows_are_timely tick rows = list_all (row_is_timely tick) rows

-- the rows of each kind set
abbrev pub tables_are_timely : ℕ → Tables → Bool
tables_are_timely tick tables = list_all (λ mask. rows_are_timely tick (rows_at tables mask)) (masks_of tables)

-- the cell of each name
abbrev pub resources_are_timely : ℕ → NamedCells → Bool
resources_are_timely tick r = list_all (λ name. if_some (cell_of r name) (is_timely tick)) (names_of r)
