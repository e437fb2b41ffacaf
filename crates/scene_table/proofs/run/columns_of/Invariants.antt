use Rattle.std.proofs.Common.{◌<◌, ℕ, length, get_or}
use Rattle.scene_table.specs.declared.run.RunColumn.{RunColumn}
use Rattle.scene_table.specs.Runs.{IsFirstColumn}
use Rattle.scene_table.proofs.ColumnsOfSteps.{AreColumnsUpTo}
use Rattle.scene_table.proofs.run.columns_of.Given as goal

abbrev pub invariant-loop-kind : goal.invariant-loop-kind
invariant-loop-kind l = record {
  first : (k : ℕ) (d : RunColumn) → k < length l.columns.items → IsFirstColumn l.table (get_or l.columns.items k d);
  so_far : AreColumnsUpTo l.steps l.columns.items l.kind;
}
