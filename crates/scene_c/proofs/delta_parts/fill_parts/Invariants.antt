use Rattle.std.proofs.Common.{◌≡◌, ◌≤◌, length, map, take, drop}
use Rattle.scene_c.proofs.JoinedLaws.{AreWritten}
use Rattle.scene_c.proofs.delta_parts.fill_parts.Given as goal

abbrev pub invariant-parts : goal.invariant-parts
invariant-parts g l = AreWritten l.at l.size (take (length l.fn.ends) (map (g.P.DeltaPart.part l.fn.part) l.fn.deltas)) l.fn.ends l.ends l.fn.room l.room
    × ((l.left ≡ drop l.at l.fn.deltas) × (l.at ≤ length l.fn.deltas))
