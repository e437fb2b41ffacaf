use Rattle.std.proofs.Common.{◌≡◌, ◌++◌, ◌≤◌, ◌-◌, drop, map, length}
use Rattle.scene_print.specs.Shown.{names_from}
use Rattle.scene_print.proofs.show.names_of.Given as goal

abbrev pub invariant-kinds : goal.invariant-kinds
invariant-kinds l = (map (λ n. n.now) l.names.items ++ names_from (drop l.kind l.schema) l.kind l.mask ≡ names_from l.schema 0 l.mask)
    × (l.kind ≤ length l.schema)

abbrev pub decreases-kinds : goal.decreases-kinds
decreases-kinds l = l.count - l.kind
