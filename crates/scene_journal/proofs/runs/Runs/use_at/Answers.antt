use Rattle.std.proofs.Common.{arith}
use Rattle.scene_journal.proofs.LiveRuns.{swapped_live}
use Rattle.scene_journal.proofs.runs.Runs.use_at.Goals as goal

pub returns-then-at-self-clause-each : goal.returns-then-at-self-clause-each
returns-then-at-self-clause-each c = λ w all k d l.
    let within = c.if-at-self.true in
    swapped_live w c.args.self.now.list.items c.swap.new.self.items c.args.at c.args.self.now.used d c.requires (omega (arith, c.requires, within)) c.swap.ensures.by_index all k d l
