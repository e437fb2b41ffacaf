use Rattle.std.proofs.Common.{◌≡◌, length}
use Rattle.std.specs.Vec.Iter.{into_iter_items, into_iter_len}
use Rattle.scene_world.specs.Built.{CanTake, taken}
use Rattle.scene_world.proofs.built.add_rows.Given as goal

abbrev pub invariant-loop-row : goal.invariant-loop-row
invariant-loop-row l = record {
  can : CanTake l.tables.tables l.mask l.count (into_iter_items l.row-iterator);
  rows : taken l.tables.tables (into_iter_items l.row-iterator) ≡ taken l.fn.tables.tables l.fn.rows.items;
  size : into_iter_len l.row-iterator ≡ length (into_iter_items l.row-iterator);
}
