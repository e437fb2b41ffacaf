use Rattle.std.proofs.Common.{◌≡◌, drop, length}
use Rattle.scene_deltas.specs.Segments.{flat}
use Rattle.scene_deltas.proofs.walks.first_behind.Given as goal

abbrev pub invariant-on : goal.invariant-on
invariant-on l = drop l.gone (flat l.left) ≡ drop l.fn.gone (flat l.segments)

abbrev pub decreases-on : goal.decreases-on
decreases-on l = length l.left
