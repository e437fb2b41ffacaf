use Rattle.std.proofs.Common.{◌≡◌, ◌+◌, ◌≤◌, length}
use Rattle.scene_deltas.proofs.delta_list.Deltas.from_list.Given as goal

abbrev pub invariant-loop-delta : goal.invariant-loop-delta
invariant-loop-delta l = (l.deltas.items ≡ l.yielded) × (length l.fn.list.items ≤ l.deltas.room + length l.yielded)
