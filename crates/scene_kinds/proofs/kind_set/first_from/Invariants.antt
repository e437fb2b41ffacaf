use Rattle.std.proofs.Common.{◌≡◌, ◌-◌}
use Rattle.scene_kinds.specs.KindSet.{kinds_from}
use Rattle.scene_kinds.proofs.kind_set.first_from.Given as goal

abbrev pub invariant-kinds : goal.invariant-kinds
invariant-kinds l = kinds_from l.set l.fn.from ≡ kinds_from l.set l.kind

abbrev pub decreases-kinds : goal.decreases-kinds
decreases-kinds l = 64 - l.kind
