use Rattle.std.proofs.Common.{◌<◌, ℕ, get_or}
use Rattle.scene_table.specs.declared.run.RunColumn.{RunColumn}
use Rattle.scene_table.specs.Runs.{StandsColumn}
use Rattle.scene_table.proofs.run.Run.is_at.Given as goal

abbrev pub invariant-loop-column : goal.invariant-loop-column
invariant-loop-column l = (k : ℕ) (d : RunColumn) → k < l.column-index → StandsColumn l.table.rows l.turns (get_or l.self.columns k d)
