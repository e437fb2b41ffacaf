use Rattle.std.proofs.Common.{◌≡◌, drop}
use Rattle.scene_deltas.specs.Ascending.{kinds_ascend}
use Rattle.scene_deltas.proofs.fits.kinds_ascend.Given as goal

abbrev pub invariant-loop-i : goal.invariant-loop-i
invariant-loop-i l = kinds_ascend (drop l.i l.cells) ≡ kinds_ascend l.cells
