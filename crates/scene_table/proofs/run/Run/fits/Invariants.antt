use Rattle.std.proofs.Common.{◌<◌, ◌≤◌, ℕ, ℤ, get_or}
use Rattle.std.specs.Prelude.{unsigned_abs}
use Rattle.scene_table.specs.declared.run.RunColumn.{RunColumn}
use Rattle.scene_table.specs.Runs.{AreInRange, grown}
use Rattle.scene_table.proofs.run.Run.fits.Given as goal

abbrev pub invariant-loop-column : goal.invariant-loop-column
invariant-loop-column l = (k : ℕ) (d : RunColumn) → k < l.column-index → (t : ℤ) → unsigned_abs t ≤ unsigned_abs l.turns → AreInRange (grown (get_or l.self.columns k d).series t)
