use Rattle.std.proofs.Common.{[], ◌∷◌, sym, subst}
use Rattle.std.specs.Prelude.{All}
use Rattle.std.proofs.lemmas.List.Elements.{All-append, All-set}
use Rattle.scene_journal.specs.LiveRuns.{IsLiveIn}
use Rattle.scene_journal.proofs.LiveRuns.{one_all}
use Rattle.scene_journal.proofs.runs.Runs.put.Goals as goal

pub returns-in-Some-clause-each : goal.returns-in-Some-clause-each
returns-in-Some-clause-each c = λ w all live. c.use_at.ensures.each w (All-set (IsLiveIn w) c.args.self.now.list.items c.in-Some.at c.args.last live all)

pub returns-in-None-clause-each : goal.returns-in-None-clause-each
returns-in-None-clause-each c = λ w all live. c.use_at-in-None.ensures.each w
    (subst (All (IsLiveIn w)) (sym c.push_reserved.ensures.items) (All-append (IsLiveIn w) c.args.self.now.list.items (c.args.last ∷ []) all (one_all (IsLiveIn w) c.args.last live)))
