use Rattle.std.proofs.Common.{◌≡◌, ◌++◌, take, map}
use Rattle.scene_kinds.specs.declared.cells.Row.{Row}
use Rattle.scene_validate.proofs.row_rules.add_indices.Given as goal

abbrev pub invariant-loop-row : goal.invariant-loop-row
invariant-loop-row l = l.indices.items ≡ l.fn.indices.items ++ map (λ (r : Row). r.entity.index) (take l.row-index l.rows)
