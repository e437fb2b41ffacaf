use Rattle.scene_journal.proofs.Listed.{none_listed}
use Rattle.scene_journal.proofs.newest.NewestCells.add.Goals as goal

pub returns-in_default-clause-listed : goal.returns-in_default-clause-listed
returns-in_default-clause-listed c = none_listed c.args.self.now c.args.tick c.args.spot c.in_default.ensures.none
