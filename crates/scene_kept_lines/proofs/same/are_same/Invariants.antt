use Rattle.std.proofs.Common.{◌≡◌, length, take}
use Rattle.scene_kept_lines.proofs.same.are_same.Given as goal

-- so far they are the same
abbrev pub invariant-items : goal.invariant-items
invariant-items g l = (length l.one ≡ length l.other) × (take l.at l.one ≡ take l.at l.other)
