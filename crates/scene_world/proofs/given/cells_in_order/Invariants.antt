use Rattle.std.proofs.Common.{◌≡◌, ◌+◌, ◌++◌, map, length}
use Rattle.std.specs.Prelude.{vec_capacity}
use Rattle.std.specs.Vec.Iter.{into_iter_items, into_iter_len}
use Rattle.scene_kinds.specs.Cells.{new_cell}
use Rattle.scene_world.proofs.given.cells_in_order.Given as goal

abbrev pub invariant-loop-kind : goal.invariant-loop-kind
invariant-loop-kind l = record {
  made : l.cells.items ++ map (λ c. (c.0, new_cell l.tick c.1)) (into_iter_items l.kind-iterator) ≡ map (λ c. (c.0, new_cell l.tick c.1)) l.fn.given.items;
  room : length l.cells.items + length (into_iter_items l.kind-iterator) ≡ vec_capacity l.cells;
  size : into_iter_len l.kind-iterator ≡ length (into_iter_items l.kind-iterator);
}
