-- The cells of a run, written to a world one after another, and at once.
use Rattle.std.specs.Prelude.{◌≡◌, ℕ, ℤ, Bool, true, List, [], ◌∷◌, All, Some, map, length, slice_get}
use Rattle.std.specs.List.{list_all}
use Rattle.scene_kinds.specs.declared.entity.Entity.{Entity}
use Rattle.scene_kinds.specs.declared.cell.Cell.{Cell}
use Rattle.scene_kinds.specs.declared.cells.Row.{Row}
use Rattle.scene_table.specs.declared.run.RunColumn.{RunColumn}
use Rattle.scene_table.specs.Tables.{rows_at, with_rows}
use Rattle.scene_table.specs.Runs.{AreLongFor, Changed, HoldsAt, RunState, Same, Stands, added_in, changed_of, rows_after, rows_with_rows}
use Rattle.scene_model.specs.World.{World}
use Rattle.scene_model.specs.Raw.{set_cell}
use Rattle.scene_model.specs.Can.{is_good_cell}
use Rattle.scene_model.specs.Valid.{IsValid}

-- the cells of a row, one after another
abbrev pub set_cells : Entity → List (ℕ × Cell) → World → World
set_cells e [] w = w
set_cells e (c ∷ cs) w = set_cells e cs (set_cell w e c.0 c.1)

-- those of rows, row by row
abbrev pub set_rows : List Row → World → World
set_rows [] w = w
set_rows (r ∷ rs) w = set_rows rs (set_cells r.entity r.cells w)

-- the world with what a run has written after so many turns
abbrev pub with_run : World → RunState → ℤ → Changed → World
with_run w run turns changed = set_rows (rows_after run turns changed) w

-- cells that may stand in a row, each of its kind
abbrev pub are_good : World → List (ℕ × Cell) → Bool
are_good w cells = list_all (λ c. is_good_cell w c.0 c.1) cells

-- where a run may be written: the rows of its table are its own, and have the kinds that it writes, with their added
-- ticks; the numbers fit, each cell has a changed tick, and may stand in its row
pub record CanPutRun (w : World) (run : RunState) (turns : ℤ) (changed : Changed) : Type 0 where
  pub rows : run.entities ≡ map (λ row. row.entity) (rows_at w.tables run.mask)
  pub added : All (λ c. added_in (rows_at w.tables run.mask) c.kind ≡ map (λ tick. Some tick) c.added.items) run.columns
  pub holds : HoldsAt run turns
  pub ticks : (number : ℕ) (c : RunColumn) → slice_get run.columns number ≡ Some c
      → length (changed_of changed number (length run.entities)) ≡ length run.entities
  pub good : All (λ row. are_good w row.cells ≡ true) (rows_after run turns changed)

-- a law of runs whose columns are as long as their entities, as those of each `Run` are
abbrev pub OfRuns : ((w : World) (run : RunState) (turns : ℤ) (changed : Changed) → Type 0) → Type 0
OfRuns Law = (w : World) (run : RunState) (turns : ℤ) (changed : Changed) → IsValid w → AreLongFor run.entities run.columns → CanPutRun w run turns changed
    → Law w run turns changed

-- the cells of a run one after another are its rows at once
abbrev pub RunsAreCells : Type 0
RunsAreCells = OfRuns (λ w run turns changed. with_run w run turns changed
    ≡ record w { tables = with_rows w.tables run.mask (rows_with_rows (rows_at w.tables run.mask) (rows_after run turns changed)) })

-- and keep a valid world valid
abbrev pub RunsKeep : Type 0
RunsKeep = OfRuns (λ w run turns changed. IsValid (with_run w run turns changed))

-- a run that stands in the table of a valid world may be written there after all turns whose numbers fit, at the
-- world's tick
abbrev pub StandingRunsCanBePut : Type 0
StandingRunsCanBePut = (w : World) (run : RunState) (before turns : ℤ) → IsValid w → Stands (rows_at w.tables run.mask) run before → HoldsAt run turns
    → CanPutRun w run turns (Same w.tick)
