use Rattle.std.proofs.Common.{◌≤◌, ◌+◌, length}
use Rattle.scene_kept_lines.proofs.Scans.{Marks}
use Rattle.scene_kept_lines.proofs.checkpoint_text.comments_of.Given as goal

-- each line takes a byte at least
abbrev pub decreases-lines : goal.decreases-lines
decreases-lines l = length l.rest

abbrev pub invariant-lines : goal.invariant-lines
invariant-lines l = Marks l.fewer l.text.items l.rest l.count × (l.count + length l.rest ≤ length l.fewer)
