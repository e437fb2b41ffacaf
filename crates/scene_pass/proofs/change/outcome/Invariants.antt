use Rattle.std.proofs.Common.{◌≡◌, drop}
use Rattle.scene_pass.specs.Changes.{values_of}
use Rattle.scene_pass.specs.InPlace.{written_of, outcome_in}
use Rattle.scene_pass.proofs.change.outcome.Given as goal

-- the steps that are left make of the written values what all make of the row
abbrev pub invariant-loop-step : goal.invariant-loop-step
invariant-loop-step l = record {
  number : l.at ≡ l.step-index;
  same : outcome_in 0 l.fn.steps (values_of l.row) (written_of l.fn.steps (values_of l.row)) ≡ outcome_in l.step-index (drop l.step-index l.steps) (values_of l.row) l.written.items;
}
