use Rattle.std.proofs.Common.{◌≡◌, take, map}
use Rattle.scene_kinds.specs.declared.cells.Row.{Row}
use Rattle.scene_validate.specs.Rules.{flat}
use Rattle.scene_validate.specs.Seen.{lists_seen}
use Rattle.scene_validate.proofs.row_rules.row_indices.Given as goal

abbrev pub invariant-loop-rows : goal.invariant-loop-rows
invariant-loop-rows l = l.indices.items ≡ map (λ (r : Row). r.entity.index) (flat (lists_seen (take l.rows-index l.parts.tables.items)))
