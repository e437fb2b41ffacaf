use Rattle.std.proofs.Common.{◌≡◌, ◌<◌, ℕ, Some, Vec, get_or, length, map}
use Rattle.std.specs.declared.alloc.Global.{Global}
use Rattle.scene_table.specs.declared.run.RunColumn.{RunColumn}
use Rattle.scene_table.specs.Runs.{changed_in}
use Rattle.scene_table.proofs.written.changed_ticks.Given as goal

abbrev pub invariant-loop-column : goal.invariant-loop-column
invariant-loop-column l = record {
  long : length l.columns.items ≡ l.column-index;
  each : (k : ℕ) (d : RunColumn) (v : Vec ℕ Global) → k < l.column-index → changed_in l.table.rows (get_or l.run.columns k d).kind ≡ map (λ (tick : ℕ). Some tick) (get_or l.columns.items k v).items;
}
