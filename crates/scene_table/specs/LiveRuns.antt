-- Runs whose last turn is what stands in rows, and what a turn leaves of that.
use Rattle.std.specs.Prelude.{◌≡◌, ℕ, ℤ, ◌+ℤ◌, pos, List, length, true, false, ◌||◌}
use Rattle.scene_kinds.specs.declared.cells.Row.{Row}
use Rattle.scene_table.specs.declared.row_step.RowStep.{RowStep}
use Rattle.scene_table.specs.RowStep.{is_written}
use Rattle.scene_table.specs.Runs.{AreApart, AreColumnsFor, AreLongFor, Changed, HasTicks, RunState, Same, Stands, is_read, rows_after, rows_with_rows}

-- a run stands in rows after so many turns, all written at one tick
pub record IsLive (rows : List Row) (run : RunState) (turns : ℤ) (tick : ℕ) : Type 0 where
  pub stands : Stands rows run turns
  pub ticks : HasTicks rows run (Same tick)

-- steps write no kind that others write or add
abbrev pub AreSpared : List RowStep → List RowStep → Type 0
AreSpared others steps = (k : ℕ) → (is_written others k || is_read others k) ≡ true → is_written steps k ≡ false

-- a turn leaves its run live
abbrev pub TurnLeavesLive : Type 0
TurnLeavesLive = (rows : List Row) (run : RunState) (turns : ℤ) (tick : ℕ) → AreApart run.steps → AreColumnsFor run.steps run.columns → AreLongFor run.entities run.columns
    → Stands rows run turns → IsLive (rows_with_rows rows (rows_after run (turns +ℤ pos 1) (Same tick))) run (turns +ℤ pos 1) tick

-- and others whose kinds it spares
abbrev pub OthersStayLive : Type 0
OthersStayLive = (rows : List Row) (run other : RunState) (turns t : ℤ) (changed : Changed) (tick : ℕ) → AreColumnsFor run.steps run.columns → AreColumnsFor other.steps other.columns
    → AreSpared other.steps run.steps → length (rows_after run turns changed) ≡ length rows
    → IsLive rows other t tick → IsLive (rows_with_rows rows (rows_after run turns changed)) other t tick
