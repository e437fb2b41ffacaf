use Rattle.std.proofs.Common.{◌≡◌, ◌++◌, length, reverse}
use Rattle.std.specs.List.{filter}
use Rattle.scene_deltas.specs.Copies.{copies_again}
use Rattle.scene_deltas.specs.Segments.{flat}
use Rattle.scene_deltas.proofs.copies.copies_to_redo.Given as goal

abbrev pub invariant-left : goal.invariant-left
invariant-left l = l.copies.items ++ reverse (filter copies_again (flat l.left)) ≡ reverse (filter copies_again l.deltas.items)

abbrev pub decreases-left : goal.decreases-left
decreases-left l = length l.left
