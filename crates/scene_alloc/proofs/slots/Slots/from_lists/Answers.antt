use Rattle.std.proofs.Common.{◌≤◌, length, arith}
use Rattle.scene_alloc.proofs.Moves.{few_distinct}
use Rattle.scene_alloc.proofs.slots.Slots.from_lists.Goals as goal

pub overflow_sub-len : goal.overflow_sub-len
overflow_sub-len c =
    let few : length c.args.free.items ≤ length c.args.generations.items = few_distinct _ _ c.requires.distinct c.requires.in_range in
    omega (arith, c.args.free.ok, c.args.generations.ok)
