use Rattle.std.proofs.Common.{arith}
use Rattle.scene_table.proofs.ApartSteps.{apart_by_place}
use Rattle.scene_table.proofs.run.are_apart.Goals as goal

pub returns : goal.returns
returns c same = apart_by_place c.loop-at.at c.args.steps.now (omega arith) c.loop-at.invariant.own c.loop-at.invariant.unread
