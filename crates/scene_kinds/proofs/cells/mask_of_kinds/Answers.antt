use Rattle.std.proofs.Common.{arith, ap, ◌^◌, ℕ}
use Rattle.scene_kinds.specs.declared.cell.Cell.{Cell}
use Rattle.scene_kinds.proofs.Masks.{next_bit}
use Rattle.scene_kinds.proofs.cells.mask_of_kinds.Goals as goal

pub overflow_add-mask : goal.overflow_add-mask
overflow_add-mask c = omega (arith, next_bit c.args.items.now c.loop-item.item-index c.item-item.result c.loop-item-test.true c.requires.ascending c.requires.below, ap (λ (x : ℕ × Cell). 2 ^ x.0) c.item-item.is)
