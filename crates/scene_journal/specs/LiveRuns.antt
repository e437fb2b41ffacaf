-- Runs whose last turn is what stands in the rows of their tables.
use Rattle.std.specs.Prelude.{◌≡◌, ℕ, ℤ, ◌+ℤ◌, pos, List, All, true, false}
use Rattle.scene_kinds.specs.declared.cells.Row.{Row}
use Rattle.scene_kinds.specs.KindSet.{KindSet}
use Rattle.scene_table.specs.LiveRuns.{AreSpared, IsLive}
use Rattle.scene_table.specs.Runs.{AreColumnsFor, RunState}
use Rattle.scene_table.specs.Tables.{rows_at}
use Rattle.scene_model.specs.World.{World}
use Rattle.scene_journal.specs.declared.runs.Last.{Last}
use Rattle.scene_journal.specs.declared.runs.Runs.{Runs}

-- a run stands in the rows of its table after so many turns, all written at one tick
pub record IsLiveRun (w : World) (run : RunState) (turns : ℤ) (tick : ℕ) : Type 0 where
  pub are : AreColumnsFor run.steps run.columns
  pub live : IsLive (rows_at w.tables run.mask) run turns tick

-- one that is said to be live does
abbrev pub IsLiveIn : World → Last → Type 0
IsLiveIn w l = l.live ≡ true → IsLiveRun w l.run.value l.turns l.tick

-- what is kept of runs: each that is said to be live is, and the flag says where none is
pub record AreKept (w : World) (r : Runs) : Type 0 where
  pub each : All (IsLiveIn w) r.list.items
  pub flag : r.any_live ≡ false → All (λ l. l.live ≡ false) r.list.items

-- a turn of a run spares another, whose steps name no kind that it writes, or are over another table
abbrev pub IsSpared : RunState → Last → Type 0
IsSpared run l = l.run.value.mask ≡ run.mask → AreSpared l.run.value.steps run.steps

-- what a turn leaves live
pub record IsTurnOf (w v : World) (run : RunState) (turns : ℤ) (tick : ℕ) : Type 0 where
  pub own : IsLiveRun v run (turns +ℤ pos 1) tick
  pub others : (l : Last) → IsSpared run l → IsLiveIn w l → IsLiveIn v l

-- what is kept of runs over a world that has these rows in the table of a kind set
abbrev pub AreKeptOver : List Row → KindSet → Runs → Type 0
AreKeptOver rows mask r = (w : World) × (AreKept w r × (rows ≡ rows_at w.tables mask))
