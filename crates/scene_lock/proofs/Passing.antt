-- What a pass has seen after a step, as contracts say it.
use Rattle.std.proofs.Common.{◌≡◌, ℕ, List, [], ◌∷◌, ◌++◌, true, false, refl, sym, ap, subst, ◌∙◌, inl, Option, Some, None, Result, Ok, Err, IfOk, IfErr, IfSome, get_or}
use mathlib.Core.Option.{some, some-injective, some-ne-none}
use lib.ListN.{get_elem?}
use Rattle.atomic_table.specs.Seated.{TableId}
use Rattle.atomic_table.specs.Table.{Me}
use Rattle.scene_lock.specs.declared.knowledge.Kind.{Kind}
use Rattle.scene_lock.specs.declared.knowledge.Knowledge.{Knowledge}
use Rattle.scene_lock.specs.declared.knowledge.Member.{Member}
use Rattle.scene_lock.specs.declared.knowledge.Step.{Step}
use Rattle.scene_lock.specs.declared.knowledge.Terms.{Terms}
use Rattle.scene_lock.specs.History.{Continues, IsLegal}
use Rattle.scene_lock.specs.Pass.{LockView, PassView, IsPassOf, IsStill, Follows, Enters}
use Rattle.scene_lock.specs.Members.{member, IsMember, all_seeing, all_stepping, seen_of, made_by}
use Rattle.scene_lock.specs.Rule.{Sees, TakesOut, PutsHome}
use Rattle.scene_lock.specs.Steps.{step_of}
use Rattle.scene_lock.proofs.Growth.{continues-further}

abbrev pub value_or : {X : Type 0} → X → List (ℕ × X) → X
value_or d [] = d
value_or d (p ∷ ps) = p.1

-- what a seat with this one pass knows
abbrev pub Alone : {E : Type 0} → List (Member E) → ℕ → List E → List Step → Type 0
Alone ms session seen steps = ms ≡ member session seen steps ∷ []

module _ {E : Type 0} where
  -- the one member of a pass's seat
  pub only : (ms : List (Member E)) (session : ℕ) → Alone ms session (seen_of ms) (made_by ms) → IsMember ms (member session (seen_of ms) (made_by ms))
  only ms session alone = subst (λ l. IsMember l (member session (seen_of ms) (made_by ms))) (sym alone) (inl refl)

  pub only-again : (ms : List (Member E)) (session : ℕ) (seen : List E) (steps : List Step) → Alone ms session seen steps → Alone ms session (seen_of ms) (made_by ms)
  only-again ms session seen steps alone = alone ∙ sym (ap (λ l. member session (seen_of l) (made_by l) ∷ []) alone)

module _ {X E O : Type 0} (legal : O → List E → Type 0) (by : E → ℕ) where
  -- a pass that has looked
  pub after_look : (before after : Me (Option X) (Knowledge E O)) (session : ℕ) → Alone before.0.members session (seen_of before.0.members) (made_by before.0.members) → Sees legal by before after
      → Alone after.0.members session (seen_of after.0.members) (made_by after.0.members) × (after.1 ≡ before.1) × (after.0.holding ≡ before.0.holding)
      × (after.0.terms ≡ before.0.terms) × Continues by session (seen_of before.0.members) (seen_of after.0.members)
      × ((terms : Terms O) → before.0.terms ≡ Some terms → IsLegal legal by terms (seen_of after.0.members)) × (made_by after.0.members ≡ made_by before.0.members)
  after_look before after session alone sees =
      let h = sees.0 in let made = made_by before.0.members in let ms : Alone after.0.members session h made = ap (λ m. m.0.members) sees.1 ∙ ap (all_seeing h) alone in
      let seen : h ≡ seen_of after.0.members = sym (ap seen_of ms) in let told = sees.2 (member session (seen_of before.0.members) made) (only before.0.members session alone) in (
        only-again after.0.members session h made ms,
        ap (λ m. m.1) sees.1,
        ap (λ m. m.0.holding) sees.1,
        ap (λ m. m.0.terms) sees.1,
        subst (λ l. Continues by session (seen_of before.0.members) l) seen told.0,
        (λ terms named. subst (λ l. IsLegal legal by terms l) seen (told.1 terms named)),
        ap made_by ms,
      )

module _ {X E O : Type 0} (good : O → X → Type 0) (history : X → List E) (legal : O → List E → Type 0) (by : E → ℕ) where
  -- a pass that took the state out, what it carries, and what it was told
  pub after_take : (kind : Kind) (found : ℕ) (before after : Me (Option X) (Knowledge E O)) (session : ℕ) (seen : List E) (steps : List Step) → Alone before.0.members session seen steps
      → TakesOut good history legal by kind found before after
      → (x : X) × (after.1 ≡ (0, Some x) ∷ []) × (after.0.holding ≡ true) × (after.0.terms ≡ before.0.terms)
      × Alone after.0.members session (history x) (steps ++ step_of session kind found 1 ∷ []) × Continues by session seen (history x)
      × ((terms : Terms O) → before.0.terms ≡ Some terms → good terms.opening x × IsLegal legal by terms (history x))
  after_take kind found before after session seen steps alone out =
      let x = out.0 in let me = member session seen steps in
      let mine : IsMember before.0.members me = subst (λ l. IsMember l me) (sym alone) (inl refl) in let told = out.2 me mine in (
        x,
        ap (λ m. m.1) out.1,
        ap (λ m. m.0.holding) out.1,
        ap (λ m. m.0.terms) out.1,
        ap (λ m. m.0.members) out.1 ∙ ap (all_stepping (history x) kind found 1) alone,
        told.0,
        (λ terms named. (out.3 me terms mine named, told.1 terms named)),
      )

module _ {X E O : Type 0} (history : X → List E) (legal : O → List E → Type 0) (by : E → ℕ) where
  -- a pass that put the state home
  pub after_put : (kind : Kind) (word : ℕ) (before after : Me (Option X) (Knowledge E O)) (x : X) (session : ℕ) (seen : List E) (steps : List Step) → Alone before.0.members session seen steps
      → PutsHome history legal by kind word x before after
      → Alone after.0.members session (history x) (steps ++ step_of session kind 1 word ∷ []) × (after.1 ≡ []) × (after.0.holding ≡ false) × (after.0.terms ≡ before.0.terms)
      × ((terms : Terms O) → before.0.terms ≡ Some terms → IsLegal legal by terms (history x))
  after_put kind word before after x session seen steps alone home =
      let me = member session seen steps in let mine : IsMember before.0.members me = subst (λ l. IsMember l me) (sym alone) (inl refl) in (
        ap (λ m. m.0.members) home.0 ∙ ap (all_stepping (history x) kind 1 word) alone,
        ap (λ m. m.1) home.0,
        ap (λ m. m.0.holding) home.0,
        ap (λ m. m.0.terms) home.0,
        (home.1 me mine).1,
      )

module _ {E O : Type 0} (legal : O → List E → Type 0) (by : E → ℕ) (lock : LockView O) where
  pub follows_seen : (pass : PassView E O) (id : TableId) (terms : Option (Terms O)) (seen : List E) (steps : List Step) → IsPassOf lock pass → id ≡ pass.id → terms ≡ pass.terms
      → Continues by pass.session pass.seen seen → ((t : Terms O) → pass.terms ≡ Some t → IsLegal legal by t seen)
      → Follows legal by lock pass (record { id = id; terms = terms; session = pass.session; seen = seen; steps = steps })
  follows_seen pass id terms seen steps mine same_id same_terms goes told = (((same_id ∙ mine.0, same_terms ∙ mine.1), refl), goes, told lock.terms mine.1)

  pub follows_further : (a b c : PassView E O) → IsStill lock a b → Continues by a.session a.seen b.seen → Follows legal by lock b c → Follows legal by lock a c
  follows_further a b c still goes f = ((f.0.0, f.0.1 ∙ still.1), continues-further by a.session a.seen b.seen c.seen goes (subst (λ s. Continues by s b.seen c.seen) still.1 f.1), f.2)

  pub enters_further : (a b c : PassView E O) (asked asked' : E → Type 0) → IsStill lock a b → Continues by a.session a.seen b.seen → ((e : E) → asked e → asked' e)
      → Enters legal by lock b asked c → Enters legal by lock a asked' c
  enters_further a b c asked asked' still goes tell t = let u = t.1 in (
    (t.0.0, t.0.1 ∙ still.1),
    (u.0, u.1, continues-further by a.session a.seen b.seen u.0 goes (subst (λ s. Continues by s b.seen u.0) still.1 u.2), u.3, u.4, u.5 ∙ still.1, tell u.1 u.6, u.7),
  )

  -- a reply at a pass that went on from another, as one at that other
  module _ {D Y : Type 0} (a b c : PassView E O) (still : IsStill lock a b) (goes : Continues by a.session a.seen b.seen) where
    pub done_further : (asked asked' : D → E → Type 0) → ((d : D) (e : E) → asked d e → asked' d e) → (r : Result D Y)
        → IfOk r (λ d. Enters legal by lock b (λ e. asked d e) c) → IfOk r (λ d. Enters legal by lock a (λ e. asked' d e) c)
    done_further asked asked' tell (Ok d) t = enters_further a b c (asked d) (asked' d) still goes (tell d) t
    done_further asked asked' tell (Err y) t = tt

    pub stopped_further : (P P' : Y → Type 0) → ((y : Y) → P y → P' y) → (r : Result D Y) → IfErr r (λ y. Follows legal by lock b c × P y) → IfErr r (λ y. Follows legal by lock a c × P' y)
    stopped_further P P' tell (Ok d) t = tt
    stopped_further P P' tell (Err y) t = (follows_further a b c still goes t.0, tell y t.1)

  module _ {D Y : Type 0} (pass holder after : PassView E O) (old new : List E) (made : List Step) (f : Follows legal by lock pass holder) (seen : holder.seen ≡ old)
      (is : after ≡ record holder { seen = new; steps = made })
      (lawful : IsLegal legal by lock.terms new) where
    pub wrote : (asked : ℕ → D → E → Type 0) (n : ℕ) → n ≡ holder.session → (r : Result D Y)
        → IfOk r (λ d. (e : E) × (new ≡ old ++ e ∷ []) × (by e ≡ n) × asked n d e) → IfOk r (λ d. Enters legal by lock pass (λ e. asked pass.session d e) after)
    wrote asked n same (Ok d) t = (
      subst (λ p. IsStill lock pass p) (sym is) f.0,
      (
        old,
        t.0,
        subst (λ h. Continues by pass.session pass.seen h) seen f.1,
        subst (λ h. IsLegal legal by lock.terms h) seen f.2,
        ap (λ p. p.seen) is ∙ t.1,
        t.2 ∙ (same ∙ f.0.1),
        subst (λ s. asked s d t.0) (same ∙ f.0.1) t.3,
        subst (λ p. IsLegal legal by lock.terms p.seen) (sym is) lawful,
      ),
    )
    wrote asked n same (Err y) t = tt

pub if_some-map : {A : Type 0} (P Q : A → Type 0) (r : Option A) → ((y : A) → P y → Q y) → IfSome r P → IfSome r Q
if_some-map P Q (Some y) f p = f y p
if_some-map P Q None f p = tt

pub first_word : (ws : List ℕ) (n : ℕ) → get_elem? ws 0 ≡ some n → get_or ws 0 0 ≡ n
first_word [] n e = absurd (some-ne-none n (sym e))
first_word (w ∷ ws) n e = some-injective w n e
