use Rattle.std.proofs.Common.{ap, subst, ◌∙◌}
use Rattle.std.specs.List.{All}
use Rattle.scene_lock.specs.Pass.{PassView, Follows, all_seen}
use Rattle.scene_session.specs.declared.entry.Entry.{Entry}
use Rattle.scene_session.specs.declared.state.Beginning.{Beginning}
use Rattle.scene_session.specs.State.{StateView, IsLegal}
use Rattle.scene_session.specs.Session.{by_session}
use Rattle.scene_session.specs.AllPasses.{passes_after}
use Rattle.scene_session.proofs.AllPasses.{passes_met, nothing_came, at_same}
use Rattle.scene_session.proofs.all_passes.ask_with_all.Goals as goal

pub returns-clause-only : goal.returns-clause-only
returns-clause-only g c =
    let lock = c.args.lock.now in let pass = c.args.pass in let after = c.read-pass.result.0 in let others = c.args.others.items in
    let met = c.meet_all-passes.ensures.met in let h = met.0 in
    let all = subst (All (λ (q : PassView Entry Beginning). Follows IsLegal by_session lock q (record q { seen = h }))) c.push_reserved.ensures.items met.2 in (
      after.steps,
      met.1 ∙ ap (all_seen h) c.push_reserved.ensures.items ∙ passes_met lock h others pass after c.requires.lock.0 c.read-pass.ensures.pass.0
          ∙ ap (λ l. passes_after l after.steps others pass)
          (nothing_came lock pass after others h all c.requires.together c.requires.all c.read-pass.ensures.pass.0 c.read-pass.ensures.pass).0,
    )

pub returns-clause-answer : goal.returns-clause-answer
returns-clause-answer g c =
    let lock = c.args.lock.now in let pass = c.args.pass in let after = c.read-pass.result.0 in let others = c.args.others.items in
    let met = c.meet_all-passes.ensures.met in let h = met.0 in
    let all = subst (All (λ (q : PassView Entry Beginning). Follows IsLegal by_session lock q (record q { seen = h }))) c.push_reserved.ensures.items met.2 in
    at_same lock pass after others h all c.requires.together c.requires.all c.read-pass.ensures.pass.0 (λ (s : StateView). g.Q.Query.answers c.args.query.now s c.read-pass.result.1)
    c.read-pass.ensures.pass c.read-pass.ensures.answer
