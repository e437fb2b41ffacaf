use Rattle.std.proofs.Common.{◌≡◌, ◌<◌, ℕ, take, false, Some}
use Rattle.std.specs.Prelude.{slice_get, All}
use Rattle.scene_table.specs.declared.row_step.RowStep.{RowStep}
use Rattle.scene_table.specs.RowStep.{is_written, target}
use Rattle.scene_table.specs.Runs.{read_kinds}
use Rattle.scene_table.proofs.run.are_apart.Given as goal

abbrev pub invariant-loop-at : goal.invariant-loop-at
invariant-loop-at l = record {
  own : (j : ℕ) (t : RowStep) → j < l.at → slice_get l.steps j ≡ Some t → is_written (take j l.steps) (target t) ≡ false;
  unread : (j : ℕ) (t : RowStep) → j < l.at → slice_get l.steps j ≡ Some t → All (λ (kind : ℕ). is_written l.steps kind ≡ false) (read_kinds t);
}
