use Rattle.std.proofs.Common.{◌≤◌, ◌+◌, All, length}
use Rattle.std.specs.Str.Lines.{lines}
use Rattle.scene_kept_lines.specs.Scans.{IsFound, IsScanned}
use Rattle.scene_kept_lines.proofs.checkpoints.checkpoints_in.Given as goal

-- each line takes a byte at least
abbrev pub decreases-lines : goal.decreases-lines
decreases-lines l = length l.scan.rest.now

abbrev pub invariant-lines : goal.invariant-lines
invariant-lines l =
    All (IsFound (lines l.text)) l.found.items
    × IsScanned (lines l.text) l.scan
    × (l.scan.number + length l.scan.rest.now ≤ length l.text)
    × (l.scan.count ≤ l.scan.number)
