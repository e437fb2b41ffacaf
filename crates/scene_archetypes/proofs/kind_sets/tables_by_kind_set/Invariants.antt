use Rattle.std.proofs.Common.{◌≡◌, map as each, take}
use Rattle.scene_archetypes.proofs.KindSets.{with_some}
use Rattle.scene_archetypes.proofs.kind_sets.tables_by_kind_set.Given as goal

abbrev pub invariant-loop-table : goal.invariant-loop-table
invariant-loop-table l = each (λ t. t.now) l.ordered.items ≡ with_some (take l.table-index l.tables)
