use Rattle.std.proofs.Common.{◌≡◌, length}
use Rattle.scene_deltas.specs.Segments.{flat, front}
use Rattle.scene_deltas.proofs.walks.last_before.Given as goal

abbrev pub invariant-back : goal.invariant-back
invariant-back l = front l.gone (flat l.left) ≡ front l.fn.gone (flat l.segments)

abbrev pub decreases-back : goal.decreases-back
decreases-back l = length l.left
