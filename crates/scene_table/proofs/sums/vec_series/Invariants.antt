use Rattle.std.proofs.Common.{◌≡◌, ◌≤◌, pos, length, map, take, vec_capacity}
use Rattle.scene_kinds.specs.declared.value.Value.TheVariants.{Vec3}
use Rattle.scene_table.specs.Runs.{AreInRange, vecs_after}
use Rattle.scene_table.proofs.sums.vec_series.Given as goal

abbrev pub invariant-loop-at : goal.invariant-loop-at
invariant-loop-at l = record {
  before : vecs_after l.base.items l.by.items (pos 0) ≡ take l.at l.values;
  addends : take l.at l.addends ≡ map Vec3 l.by.items;
  fits : AreInRange (vecs_after l.base.items l.by.items (pos 1));
  room : length l.values ≤ vec_capacity l.base;
  room_by : length l.values ≤ vec_capacity l.by;
  long : length l.base.items ≡ l.at;
  long_by : length l.by.items ≡ l.at;
}
