use Rattle.std.proofs.Common.{arith}
use Rattle.scene_validate.proofs.Ascents.{falls_back, rise_all}
use Rattle.scene_validate.proofs.row_rules.kinds_ascend.Goals as goal

pub returns-then-kind-least : goal.returns-then-kind-least
returns-then-kind-least c = falls_back _ _ c.cell-item.result _ c.loop-cell.invariant.rises c.loop-cell-test.true c.cell-item.is (omega (arith, c.from-kind.ensures, c.if-kind-least.true))

pub returns : goal.returns
returns c = rise_all _ _ _ c.loop-cell.invariant.rises c.loop-cell-test.false
