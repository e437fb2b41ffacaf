use Rattle.std.proofs.Common.{◌≡◌, take}
use Rattle.scene_kinds.specs.Cells.{mask_of}
use Rattle.scene_kinds.proofs.cells.mask_of_kinds.Given as goal

abbrev pub invariant-loop-item : goal.invariant-loop-item
invariant-loop-item l = l.mask ≡ mask_of (take l.item-index l.items)
