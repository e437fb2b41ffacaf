-- What a pass has seen, and which steps were made through it, after the state was taken out or put back.
use Rattle.std.proofs.Common.{◌≡◌, ℕ, List, [], ◌∷◌, ◌++◌, false, refl, sym, ap, subst, ◌∙◌, Option, Some, None, unwrap_or}
use Rattle.std.specs.Arc.{arc_value}
use Rattle.std.specs.declared.sync.Arc.{Arc}
use Rattle.atomic_table.specs.Seated.{TableId}
use Rattle.atomic_table.specs.Table.{Me}
use Rattle.scene_lock.specs.declared.knowledge.Kind.{Kind}
use Rattle.scene_lock.specs.declared.knowledge.Knowledge.{Knowledge}
use Rattle.scene_lock.specs.History.{Continues, IsLegal}
use Rattle.scene_lock.specs.Members.{seen_of, made_by}
use Rattle.scene_lock.specs.Pass.{LockView, PassView, IsPassOf, Follows}
use Rattle.scene_lock.specs.Rule.{Sees, TakesOut, PutsHome}
use Rattle.scene_lock.specs.Shared.{IsStateOf, shared_good, shared_entries, HasTaken}
use Rattle.scene_lock.specs.Steps.{step_of}
use Rattle.scene_lock.proofs.Passing.{value_or, Alone, only-again, after_look, after_take, after_put}

-- the pass that a seat stands for, as contracts see it
abbrev pub viewed : {X E O : Type 0} → TableId → Me X (Knowledge E O) → ℕ → PassView E O
viewed id me session = record { id = id; terms = me.0.terms; session = session; seen = seen_of me.0.members; steps = made_by me.0.members }

module _ {X E O : Type 0} (legal : O → List E → Type 0) (by : E → ℕ) (lock : LockView O) where
  -- a pass that has looked
  pub has_looked : (before after : Me (Option X) (Knowledge E O)) (id id' : TableId) (session : ℕ) (pass : PassView E O) → viewed id before session ≡ pass → IsPassOf lock pass
      → id' ≡ id → Alone before.0.members session (seen_of before.0.members) (made_by before.0.members) → Sees legal by before after
      → Follows legal by lock pass (viewed id' after session) × ((viewed id' after session).steps ≡ pass.steps)
  has_looked before after id id' session pass is mine same alone sees =
      let t = after_look legal by before after session alone sees in
      let view : PassView E O = viewed id before session in let ours : IsPassOf lock view = subst (IsPassOf lock) (sym is) mine in
      subst (λ p. Follows legal by lock p (viewed id' after session) × ((viewed id' after session).steps ≡ p.steps)) is
      ((((same ∙ ours.0, t.3 ∙ ours.1), refl), t.4, t.5 lock.terms ours.1), t.6)

module _ {X Z E O : Type 0} (good : X → Type 0) (opening : X → O) (entries : X → List E) (legal : O → List E → Type 0) (by : E → ℕ) (lock : LockView O) where
  -- a pass that took the state out
  pub has_taken : (kind : Kind) (found : ℕ) (before after : Me (Option (Arc X Z)) (Knowledge E O)) (id : TableId) (session : ℕ) (pass holder : PassView E O) (share : Arc X Z)
      → viewed id before session ≡ pass → IsPassOf lock pass → Alone before.0.members session (seen_of before.0.members) (made_by before.0.members)
      → TakesOut (shared_good good opening) (shared_entries entries) legal by kind found before after → after.1 ≡ (0, Some share) ∷ [] → holder ≡ viewed lock.id after session
      → HasTaken good opening entries legal by lock pass share holder × (holder.steps ≡ pass.steps ++ step_of pass.session kind found 1 ∷ [])
  has_taken kind found before after id session pass holder share is mine alone out carries holds =
      let t = after_take (shared_good good opening) (shared_entries entries) legal by kind found before after session (seen_of before.0.members) (made_by before.0.members) alone out in
      let same : t.0 ≡ share = ap (λ s. unwrap_or (value_or None s) t.0) (sym t.1 ∙ carries) in
      let view : PassView E O = viewed id before session in let ours : IsPassOf lock view = subst (IsPassOf lock) (sym is) mine in
      let told = t.6 lock.terms ours.1 in
      let seen : entries (arc_value t.0) ≡ seen_of after.0.members = sym (ap seen_of t.4) in
      subst (λ (z : PassView E O × PassView E O). HasTaken good opening entries legal by lock z.0 share z.1 × (z.1.steps ≡ z.0.steps ++ step_of z.0.session kind found 1 ∷ [])) (λ i. (is i, sym holds i)) (
        (
          (((refl, t.3 ∙ ours.1), refl), subst (λ l. Continues by session (seen_of before.0.members) l) seen t.5, subst (λ l. IsLegal legal by lock.terms l) seen told.1),
          sym seen ∙ ap (λ s. entries (arc_value s)) same,
          subst (λ s. IsStateOf good opening lock.terms.opening (arc_value s)) same told.0,
        ),
        ap made_by t.4,
      )

  -- a pass that put the state back
  pub has_put : (kind : Kind) (word : ℕ) (before after : Me (Option (Arc X Z)) (Knowledge E O)) (id : TableId) (session : ℕ) (holder : PassView E O) (share : Arc X Z)
      → IsPassOf lock holder → id ≡ lock.id → before.0.terms ≡ holder.terms → session ≡ holder.session → Alone before.0.members holder.session holder.seen holder.steps
      → PutsHome (shared_entries entries) legal by kind word share before after
      → Alone after.0.members session (seen_of after.0.members) (made_by after.0.members) × (after.1 ≡ []) × (after.0.holding ≡ false)
      × (viewed id after session ≡ record holder { seen = entries (arc_value share); steps = holder.steps ++ step_of holder.session kind 1 word ∷ [] })
      × IsLegal legal by lock.terms (entries (arc_value share))
  has_put kind word before after id session holder share mine here terms number alone home =
      let h = entries (arc_value share) in
      let t = after_put (shared_entries entries) legal by kind word before after share holder.session holder.seen holder.steps alone home in
      let made = holder.steps ++ step_of holder.session kind 1 word ∷ [] in
      let place = here ∙ sym mine.0 in let named = t.3 ∙ terms in let seen = ap seen_of t.0 in let steps = ap made_by t.0 in (
        subst (λ n. Alone after.0.members n (seen_of after.0.members) (made_by after.0.members)) (sym number) (only-again after.0.members holder.session h made t.0),
        t.1,
        t.2,
        (λ i. record { id = place i; terms = named i; session = number i; seen = seen i; steps = steps i }),
        t.4 lock.terms (terms ∙ mine.1),
      )
