use Rattle.scene_kept_lines.proofs.Scans.{Unmarks}
use Rattle.scene_kept_lines.proofs.checkpoints.checkpoint_lines.Given as goal

abbrev pub decreases-lines : goal.decreases-lines
decreases-lines l = l.left

abbrev pub invariant-lines : goal.invariant-lines
invariant-lines l = Unmarks l.block l.count l.text.items l.rest l.left
