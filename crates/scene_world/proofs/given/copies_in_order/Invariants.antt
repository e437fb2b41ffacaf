use Rattle.std.proofs.Common.{◌≡◌, ◌++◌, drop, map, length}
use Rattle.std.specs.Prelude.{vec_capacity}
use Rattle.scene_kinds.specs.Cells.{new_cell}
use Rattle.scene_world.proofs.given.copies_in_order.Given as goal

abbrev pub invariant-loop-kind : goal.invariant-loop-kind
invariant-loop-kind l = record {
  made : l.cells.items ++ map (λ c. (c.0, new_cell l.tick c.1)) (drop l.kind-index l.given) ≡ map (λ c. (c.0, new_cell l.tick c.1)) l.given;
  count : length l.cells.items ≡ l.kind-index;
  room : vec_capacity l.cells ≡ length l.given;
}
