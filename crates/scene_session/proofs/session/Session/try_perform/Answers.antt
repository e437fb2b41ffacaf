use Rattle.std.proofs.Common.{refl, subst, IfOk}
use Rattle.scene_lock.specs.Pass.{Enters}
use Rattle.scene_session.specs.Calls.{told}
use Rattle.scene_session.specs.State.{IsLegal}
use Rattle.scene_session.specs.Session.{SessionView, Performed, by_session}
use Rattle.scene_session.proofs.Performances.{IsEntryOf, all_performed}
use Rattle.scene_session.proofs.session.Session.try_perform.Goals as goal

pub returns-in-Ok-clause-performed : goal.returns-in-Ok-clause-performed
returns-in-Ok-clause-performed c =
    let before : SessionView = record { lock = c.self.inside.lock.now; pass = c.self.inside.pass } in
    let after : SessionView = record { lock = c.self.inside.lock.now; pass = c.try_write-pass.result.0 } in
    let entered = subst (λ r. IfOk r (λ q. IfOk q (λ d. Enters IsLegal by_session before.lock before.pass (IsEntryOf c.args.call d) after.pass)))
    c.in-Ok.is c.try_write-pass.ensures.done in
    subst (λ s. IfOk c.in-Ok.reply (λ d. Performed s c.args.call (told d) after)) c.self.view_is (all_performed before after c.args.call c.in-Ok.reply refl entered)
