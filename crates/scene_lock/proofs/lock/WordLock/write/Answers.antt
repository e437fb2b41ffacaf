use Rattle.std.proofs.Common.{◌≡◌, ◌∙◌, ℕ, subst, IfOk, IfErr}
use Rattle.scene_lock.specs.Pass.{Follows, Enters}
use Rattle.scene_lock.specs.Shared.{AtState}
use Rattle.scene_lock.proofs.Passing.{done_further, stopped_further, follows_further}
use Rattle.scene_lock.proofs.Walks.{attempts-more, attempts-last}
use Rattle.scene_lock.proofs.lock.WordLock.write.Goals as goal

pub returns-in-Ok-clause-done : goal.returns-in-Ok-clause-done
returns-in-Ok-clause-done g c = let k = g.S.Kept in let lock = c.args.self.now in let l = c.loop in let i = l.invariant in let after = c.attempt-next.result.0 in
    let enters = g.C.Change.enters in
    done_further k.legal k.session lock c.args.pass l.pass after i.0 i.1 (λ d e. enters l.job l.pass.session d e) (λ d e. enters c.args.job c.args.pass.session d e)
    (λ d e. subst (λ (z : ℕ × g.row.C.Denot). enters z.1 z.0 d e) (λ j. (i.0.1 j, i.2 j))) c.in-Ok.reply
    (subst (λ r. IfOk r (λ q. IfOk q (λ d. Enters k.legal k.session lock l.pass (λ e. enters l.job l.pass.session d e) after))) c.in-Ok.is c.attempt-next.ensures.done)

pub returns-in-Ok-clause-stopped : goal.returns-in-Ok-clause-stopped
returns-in-Ok-clause-stopped g c = let k = g.S.Kept in let lock = c.args.self.now in let l = c.loop in let i = l.invariant in let after = c.attempt-next.result.0 in
    let At : g.row.C.Denot → g.row.C-Stopped.Denot → Type 0 = λ job x. AtState k.good k.opening k.entries lock.terms.opening after.seen (λ s. g.C.Change.stops job s x) in
    stopped_further k.legal k.session lock c.args.pass l.pass after i.0 i.1 (At l.job) (At c.args.job) (λ x. subst (λ job. At job x) i.2) c.in-Ok.reply
    (subst (λ r. IfOk r (λ q. IfErr q (λ x. Follows k.legal k.session lock l.pass after × At l.job x))) c.in-Ok.is c.attempt-next.ensures.stopped)

pub returns-in-Ok-clause-steps : goal.returns-in-Ok-clause-steps
returns-in-Ok-clause-steps g c = let l = c.loop in let i = l.invariant in let next = c.attempt-next in
    attempts-last c.args.pass.session l.pass.session i.0.1 c.args.pass.steps l.pass.steps next.result.0.steps i.3 next.result.1 next.ensures.steps c.in-Ok.reply c.in-Ok.is

pub loop-preserved : goal.loop-preserved
loop-preserved g c = let k = g.S.Kept in let lock = c.args.self.now in let l = c.loop in let i = l.invariant in let next = c.attempt-next in
    let t = subst (λ r. IfErr r (λ j. (j ≡ l.job) × Follows k.legal k.session lock l.pass next.result.0)) c.in-Err.is next.ensures.busy in
    let f = follows_further k.legal k.session lock c.args.pass l.pass next.result.0 i.0 i.1 t.1 in (
      f.0,
      f.1,
      t.0 ∙ i.2,
      attempts-more c.args.pass.session l.pass.session i.0.1 c.args.pass.steps l.pass.steps next.result.0.steps i.3 next.result.1 next.ensures.steps c.in-Err.back c.in-Err.is,
    )
