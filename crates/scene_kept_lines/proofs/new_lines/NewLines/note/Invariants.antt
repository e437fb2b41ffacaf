use Rattle.std.proofs.Common.{length}
use Rattle.scene_kept_lines.proofs.new_lines.NewLines.note.Given as goal

-- each line takes a byte at least
abbrev pub decreases-lines : goal.decreases-lines
decreases-lines l = length l.rest
