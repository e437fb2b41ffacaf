use Rattle.std.proofs.Common.{◌+◌, ◌≤◌, length}
use Rattle.scene_kept_lines.proofs.log.length_to_entry.Given as goal

-- each line takes a byte at least
abbrev pub decreases-lines : goal.decreases-lines
decreases-lines l = length l.rest

abbrev pub invariant-lines : goal.invariant-lines
invariant-lines l = l.number + length l.rest ≤ length l.text
