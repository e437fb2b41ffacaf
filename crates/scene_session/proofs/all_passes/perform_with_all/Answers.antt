use Rattle.std.proofs.Common.{ap, subst, ◌∙◌}
use Rattle.std.specs.List.{All}
use Rattle.scene_lock.specs.Pass.{PassView, Follows, all_seen}
use Rattle.scene_session.specs.declared.entry.Entry.{Entry}
use Rattle.scene_session.specs.declared.state.Beginning.{Beginning}
use Rattle.scene_session.specs.State.{IsLegal}
use Rattle.scene_session.specs.Session.{by_session}
use Rattle.scene_session.proofs.AllPasses.{passes_met, only_call}
use Rattle.scene_session.proofs.all_passes.perform_with_all.Goals as goal

pub returns-clause-only : goal.returns-clause-only
returns-clause-only g c =
    let lock = c.args.lock.now in let pass = c.args.pass in let after = c.write-pass.result.0 in let others = c.args.others.items in
    let met = c.meet_all-passes.ensures.met in let h = met.0 in
    let all = subst (All (λ (q : PassView Entry Beginning). Follows IsLegal by_session lock q (record q { seen = h }))) c.push_reserved.ensures.items met.2 in (
      h,
      after.steps,
      met.1 ∙ ap (all_seen h) c.push_reserved.ensures.items ∙ passes_met lock h others pass after c.requires.lock.0 c.write-pass.ensures.pass,
      only_call lock pass after others h all c.requires.together c.requires.all c.write-pass.ensures.pass c.args.call c.write-pass.result.1 c.write-pass.ensures.done c.write-pass.ensures.stopped,
    )
