use Rattle.std.proofs.Common.{◌≡◌, ◌≤◌, pos, length, take, vec_capacity}
use Rattle.scene_table.specs.Runs.{AreInRange, ints_after}
use Rattle.scene_table.proofs.sums.int_series.Given as goal

abbrev pub invariant-loop-value : goal.invariant-loop-value
invariant-loop-value l = record {
  before : ints_after l.base.items l.by (pos 0) ≡ take l.value-index l.values;
  fits : AreInRange (ints_after l.base.items l.by (pos 1));
  room : length l.values ≤ vec_capacity l.base;
  long : length l.base.items ≡ l.value-index;
}
