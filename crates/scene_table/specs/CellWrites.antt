-- Cells that are written one after another, and the rows that they make.
use Rattle.std.specs.Prelude.{◌≡◌, ℕ, ◌+◌, ℤ, ◌+ℤ◌, pos, List, [], ◌∷◌, map, length, All, Some, slice_get}
use Rattle.std.specs.Option.{option_map, unwrap_or}
use Rattle.scene_kinds.specs.Cells.{IsAscending, cell_of, put_over}
use Rattle.scene_kinds.specs.declared.entity.Entity.{Entity}
use Rattle.scene_kinds.specs.declared.cell.Cell.{Cell}
use Rattle.scene_kinds.specs.declared.cells.Row.{Row}
use Rattle.scene_table.specs.Table.{row_with_cell, rows_with_cell}
use Rattle.scene_table.specs.Steps.{Values}
use Rattle.scene_table.specs.Tables.{row_place}
use Rattle.scene_table.specs.Runs.{AreApart, AreColumnsFor, AreLongFor, Changed, GoesOn, HasTicks, HoldsAt, IsTurn, RunState, Same, Stands, TurnState, cells_of_turn, rows_after, rows_after_turn, rows_before_turn, rows_with_rows, written_values}

-- rows with these cells in the row at a place
abbrev pub set_cells_at : List Row → ℕ → List (ℕ × Cell) → List Row
set_cells_at rows at [] = rows
set_cells_at rows at (c ∷ cs) = set_cells_at (rows_with_cell rows at c.0 c.1) at cs

-- rows with the cells of other rows, place by place from one
abbrev pub set_rows_from : ℕ → List Row → List Row → List Row
set_rows_from at rows [] = rows
set_rows_from at rows (w ∷ ws) = set_rows_from (at + 1) (set_cells_at rows at w.cells) ws

-- rows with this cell in the row of an entity, if it has one
abbrev pub rows_with_cell_of : List Row → Entity → ℕ → Cell → List Row
rows_with_cell_of rows e kind cell = unwrap_or (option_map (λ at. rows_with_cell rows at kind cell) (row_place e rows)) rows

-- rows with cells of entities
abbrev pub set_cells_of : List Row → List (Entity × ℕ × Cell) → List Row
set_cells_of rows [] = rows
set_cells_of rows (c ∷ cs) = set_cells_of (rows_with_cell_of rows c.0 c.1 c.2) cs

-- and the last of them first
abbrev pub set_cells_back : List Row → List (Entity × ℕ × Cell) → List Row
set_cells_back rows [] = rows
set_cells_back rows (c ∷ cs) = rows_with_cell_of (set_cells_back rows cs) c.0 c.1 c.2

-- a row with values, each at a tick in the cell of its kind
abbrev pub with_values : ℕ → Row → Values → Row
with_values tick row [] = row
with_values tick row (v ∷ vs) = with_values tick (row_with_cell row v.0 (put_over (cell_of row.cells v.0) v.1 tick)) vs

-- no two are one entity
abbrev pub AreOnce : List Entity → Type 0
AreOnce entities = (i j : ℕ) (e : Entity) → slice_get entities i ≡ Some e → slice_get entities j ≡ Some e → i ≡ j

-- what the cells of a turn were, and what they become
abbrev pub cells_before : TurnState → List (Entity × ℕ × Cell)
cells_before t = map (λ c. (c.0, c.1, c.2)) (cells_of_turn t)

abbrev pub cells_after : TurnState → List (Entity × ℕ × Cell)
cells_after t = map (λ c. (c.0, c.1, c.3)) (cells_of_turn t)

-- the entities of a turn are those of rows, each once
pub record IsOver (rows : List Row) (t : TurnState) : Type 0 where
  pub is : IsTurn t
  pub long : AreLongFor t.run.entities t.run.columns
  pub entities : t.run.entities ≡ map (λ row. row.entity) rows
  pub once : AreOnce t.run.entities

-- cells one after another, place by place, are rows at once
abbrev pub CellsAreRows : Type 0
CellsAreRows = (rows written : List Row) → length written ≡ length rows → set_rows_from 0 rows written ≡ rows_with_rows rows written

-- the cells of a turn one after another, each in the row of its entity, are its rows at once
abbrev pub TurnIsCells : Type 0
TurnIsCells = (rows : List Row) (t : TurnState) → IsOver rows t → set_cells_of rows (cells_after t) ≡ rows_with_rows rows (rows_after_turn t)

-- and so are those that were there before
abbrev pub TurnWasCells : Type 0
TurnWasCells = (rows : List Row) (t : TurnState) → IsOver rows t → set_cells_of rows (cells_before t) ≡ rows_with_rows rows (rows_before_turn t)

-- also the last of them first
abbrev pub TurnIsTakenBack : Type 0
TurnIsTakenBack = (rows : List Row) (t : TurnState) → IsOver rows t → AreColumnsFor t.run.steps t.run.columns → All (λ row. IsAscending row.cells) rows
    → set_cells_back rows (cells_before t) ≡ rows_with_rows rows (rows_before_turn t)

-- what was there before, over the rows after a turn, makes the rows from which it went on
abbrev pub TurnComesBack : Type 0
TurnComesBack = (rows : List Row) (t : TurnState) → IsTurn t → AreLongFor t.run.entities t.run.columns → All (λ row. IsAscending row.cells) rows → GoesOn rows t.run.steps t.run t.turns t.before
    → rows_with_rows (rows_with_rows rows (rows_after_turn t)) (rows_before_turn t) ≡ rows

-- a run over rows that stand so that so many turns were before goes on as its steps do
abbrev pub RunGoesOn : Type 0
RunGoesOn = (rows : List Row) (run : RunState) (turns : ℤ) (before : Changed) → All (λ row. IsAscending row.cells) rows → AreApart run.steps → AreColumnsFor run.steps run.columns → AreLongFor run.entities run.columns
    → Stands rows run turns → HasTicks rows run before → HoldsAt run (turns +ℤ pos 1) → GoesOn rows run.steps run turns before

-- and writes into each row what its steps make of it, at the tick of the turn
abbrev pub TurnWritesSteps : Type 0
TurnWritesSteps = (rows : List Row) (run : RunState) (turns : ℤ) (before : Changed) (tick : ℕ) → All (λ row. IsAscending row.cells) rows → AreApart run.steps → AreColumnsFor run.steps run.columns
    → AreLongFor run.entities run.columns → Stands rows run turns → HasTicks rows run before → HoldsAt run (turns +ℤ pos 1)
    → map (λ row. Some row) (rows_with_rows rows (rows_after run (turns +ℤ pos 1) (Same tick))) ≡ map (λ row. option_map (with_values tick row) (written_values run.steps row)) rows
