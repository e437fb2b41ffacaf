use Rattle.std.proofs.Common.{refl, subst, IfOk}
use Rattle.scene_session.specs.Calls.{told}
use Rattle.scene_session.specs.Session.{SessionView, Performed}
use Rattle.scene_session.proofs.Performances.{all_performed}
use Rattle.scene_session.proofs.session.Session.perform.Goals as goal

pub returns-clause-performed : goal.returns-clause-performed
returns-clause-performed g c =
    let before : SessionView = record { lock = c.self.inside.lock.now; pass = c.self.inside.pass } in
    let after : SessionView = record { lock = c.self.inside.lock.now; pass = c.write-pass.result.0 } in
    subst (λ s. IfOk c.write-pass.result.1 (λ d. Performed s c.args.call (told d) after)) c.self.view_is
    (all_performed before after c.args.call c.write-pass.result.1 refl c.write-pass.ensures.done)
