use Rattle.std.proofs.Common.{◌≡◌, ℕ, ◌+◌, ◌<◌, length, ap, subst, sym, ◌∙◌}
use Rattle.std.specs.Prelude.{Err}
use Rattle.scene_session.specs.Owner.{OwnerState}
use Rattle.scene_session.specs.Turns.{owner_by}
use Rattle.scene_session.specs.Whole.{whole_of}
use Rattle.scene_session.proofs.Turns.{editor_full, editor_refused}
use Rattle.scene_session.proofs.lone_owner.LoneOwner.first_refusal.Goals as goal

pub returns-in-Ok : goal.returns-in-Ok
returns-in-Ok c =
    let x = c.self.inside in
    let h : OwnerState = record { opening = whole_of x.opening.value; limit = x.limit; history = x.log.calls; session = x.session } in
    subst (λ (s : OwnerState). (count : ℕ) → s.limit < length s.history + count → owner_by c.args.way count s ≡ Err c.from.result) c.self.view_is
    (λ count less. editor_full c.args.way h x.editor c.self.invariant.0 x.room c.self.invariant.1 c.in-Ok.ensures.done count less ∙ ap (λ r. Err r) (sym c.from.ensures))

pub returns-in-Err : goal.returns-in-Err
returns-in-Err c =
    let x = c.self.inside in
    let h : OwnerState = record { opening = whole_of x.opening.value; limit = x.limit; history = x.log.calls; session = x.session } in
    subst (λ (s : OwnerState). (count : ℕ) → s.limit < length s.history + count → owner_by c.args.way count s ≡ Err c.in-Err.refusal) c.self.view_is
    (λ count less. editor_refused c.args.way h x.editor c.self.invariant.0 x.room c.self.invariant.1 c.in-Err.refusal c.in-Err.ensures.refused count less)
