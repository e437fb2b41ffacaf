use Rattle.std.proofs.Common.{◌≡◌, ◌≤◌, drop}
use Rattle.scene_validate.proofs.Ascents.{rises}
use Rattle.scene_validate.proofs.row_rules.kinds_ascend.Given as goal

abbrev pub invariant-loop-cell : goal.invariant-loop-cell
invariant-loop-cell l = record {
  rises : rises l.least (drop l.cell-index l.cells) ≡ rises 0 l.cells;
  low : l.least ≤ 256;
}
