use Rattle.std.proofs.Common.{◌≡◌, ◌++◌, drop}
use Rattle.std.specs.List.{filter}
use Rattle.scene_deltas.specs.Copies.{copies_back}
use Rattle.scene_deltas.specs.Segments.{flat}
use Rattle.scene_deltas.proofs.copies.copies_to_undo.Given as goal

abbrev pub invariant-loop-segment : goal.invariant-loop-segment
invariant-loop-segment l = l.copies.items ++ filter copies_back (flat (drop l.segment-index l.segments)) ≡ filter copies_back l.deltas.items
