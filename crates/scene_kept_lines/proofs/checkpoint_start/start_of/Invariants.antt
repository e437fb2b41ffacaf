use Rattle.std.proofs.Common.{All, length}
use Rattle.std.specs.Str.Lines.{lines}
use Rattle.scene_kept_lines.specs.Scans.{IsFound}
use Rattle.scene_kept_lines.proofs.checkpoint_start.start_of.Given as goal

abbrev pub decreases-newest : goal.decreases-newest
decreases-newest g l = length l.checkpoints.items

abbrev pub invariant-newest : goal.invariant-newest
invariant-newest g l = All (IsFound (lines l.text)) l.checkpoints.items
