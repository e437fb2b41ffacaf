use Rattle.std.proofs.Common.{arith}
use Rattle.scene_alloc.proofs.Moves.{IsSlots-new}
use Rattle.scene_alloc.proofs.slots.Slots.new.Goals as goal

pub invariant_of-result : goal.invariant_of-result
invariant_of-result c = record {
  sound = rw (c.new.ensures.items, c.new-2.ensures.items) (IsSlots-new c.args.limit c.requires.some_limit c.requires.low_limit);
  room = rw c.new.ensures.items (omega arith);
}
