use Rattle.std.proofs.Common.{◌≡◌, ◌+◌, ◌≤◌, ◌++◌, length}
use Rattle.scene_deltas.specs.DeltaList.{held_room, held_segments}
use Rattle.scene_deltas.proofs.delta_list.Held.push_list.Given as goal

abbrev pub invariant-loop-segment : goal.invariant-loop-segment
invariant-loop-segment l = (held_segments l.initial.self ++ l.yielded ≡ held_segments l.self) × (length l.fn.list.items ≤ held_room l.self + length l.yielded)
