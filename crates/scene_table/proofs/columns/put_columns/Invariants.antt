use Rattle.std.proofs.Common.{◌≡◌, drop}
use Rattle.std.specs.Prelude.{length, All}
use Rattle.scene_table.specs.Columns.{AreLong}
use Rattle.scene_table.specs.Runs.{all_turned, grown}
use Rattle.scene_table.proofs.columns.put_columns.Given as goal

abbrev pub invariant-loop-number : goal.invariant-loop-number
invariant-loop-number g l = record {
  turned : all_turned l.number (drop l.number l.of_run) l.turns l.changed l.columns ≡ all_turned 0 l.of_run l.turns l.changed l.initial.columns;
  long : All (λ c. AreLong (length (grown c.series l.turns)) l.columns) l.of_run;
}
