use Rattle.std.proofs.Common.{◌≡◌, ◌<◌, ℕ, Some, get_or, length, map}
use Rattle.std.specs.Prelude.{replicate}
use Rattle.scene_table.specs.declared.run.RunColumn.{RunColumn}
use Rattle.scene_table.specs.Runs.{changed_in}
use Rattle.scene_table.proofs.written.are_changed_at.Given as goal

abbrev pub invariant-loop-column : goal.invariant-loop-column
invariant-loop-column l = (k : ℕ) (d : RunColumn) → k < l.column-index → changed_in l.table.rows (get_or l.run.columns k d).kind ≡ map (λ (tick : ℕ). Some tick) (replicate (length l.table.rows) l.tick)
