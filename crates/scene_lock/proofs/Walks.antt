-- Steps that lead from word to word.
use Rattle.std.proofs.Common.{◌≡◌, ◌≢◌, ◌⊎◌, ℕ, suc, List, [], ◌∷◌, ◌++◌, refl, sym, ap, ◌∙◌, subst, ⊎_elim, inl, inr, Option, Some, None, Result, Ok, Err, IfOk, IfErr, append_assoc, arith}
use Rattle.std.proofs.lemmas.List.Elements.{All-push}
use Rattle.scene_lock.specs.declared.knowledge.Kind.{Kind}
use Rattle.scene_lock.specs.declared.knowledge.Kind.TheVariants.{TakeToChange, TakeToShare, PutChanged, PutAsItWas, PutWanted}
use Rattle.scene_lock.specs.declared.knowledge.Step.{Step}
use Rattle.scene_lock.specs.History.{HasOneMore}
use Rattle.scene_lock.specs.Steps.{IsFree, Turns, Moves, Leads, visit, rounds, shares, Attempts, Waits, Writes, Reads, TriesToRead, put_after}

pub leads-more : (word last : ℕ) (ss : List Step) (s : Step) → Leads word ss last → s.before ≡ last → Turns s.kind s.before s.after → Leads word (ss ++ s ∷ []) s.after
leads-more word last [] s led at kind = (at ∙ sym led, kind, refl)
leads-more word last (t ∷ ss) s led at kind = (led.0, led.1, leads-more t.after last ss s led.2 at kind)

-- the state is never out where it is at home
pub free-not_out : (word : ℕ) → IsFree word → word ≢ 1
free-not_out word free out = ⊎_elim (λ a. absurd (omega (arith, a, out))) (λ b. absurd (omega (arith, b, out))) free

-- a step that leaves word 1 takes the state from home
pub turns-taking : (kind : Kind) (from : ℕ) → Turns kind from 1 → IsFree from
turns-taking TakeToChange from t = t.0
turns-taking TakeToShare from t = inl t.0
turns-taking PutChanged from t = absurd (free-not_out 1 (inl t.1) refl)
turns-taking PutAsItWas from t = absurd (free-not_out 1 (inl t.1) refl)
turns-taking PutWanted from t = absurd (free-not_out 1 (inr t.1) refl)

-- a step that finds word 1 puts the state home
pub turns-putting : (kind : Kind) (to : ℕ) → Turns kind 1 to → IsFree to
turns-putting TakeToChange to t = absurd (free-not_out 1 t.0 refl)
turns-putting TakeToShare to t = absurd (free-not_out 1 (inl t.0) refl)
turns-putting PutChanged to t = inl t.1
turns-putting PutAsItWas to t = inl t.1
turns-putting PutWanted to t = inr t.1

module _ {E : Type 0} (by : E → ℕ) where
  -- a history that a step moves is the same, or has one entry of the session more
  pub moves-grown : (kind : Kind) (session : ℕ) (before after : List E) → Moves by kind session before after
      → (after ≡ before) ⊎ ((e : E) × (after ≡ before ++ e ∷ []) × (by e ≡ session))
  moves-grown TakeToChange session before after m = inl m
  moves-grown TakeToShare session before after m = inl m
  moves-grown PutChanged session before after m = inr (m.0, m.1, m.2)
  moves-grown PutAsItWas session before after m = inl m
  moves-grown PutWanted session before after m = inl m

  -- a job moves the history as the step that puts the state back after it
  pub moves-after : {D Y : Type 0} (session : ℕ) (before after : List E) (asked : D → E → Type 0) (P : Y → Type 0) (r : Result D Y)
      → IfOk r (λ d. HasOneMore by session before (λ e. asked d e) after) → IfErr r (λ y. (after ≡ before) × P y) → Moves by (put_after r) session before after
  moves-after session before after asked P (Ok d) done stopped = (done.0, done.1, done.2, tt)
  moves-after session before after asked P (Err y) done stopped = stopped.0

pub rounds-more : (session : ℕ) (found : List ℕ) (from : ℕ) → rounds session (found ++ from ∷ []) ≡ rounds session found ++ visit session TakeToChange from PutWanted 2
rounds-more session [] from = refl
rounds-more session (f ∷ found) from = ap (λ l. visit session TakeToChange f PutWanted 2 ++ l) (rounds-more session found from)

-- one round more of a `write` that was turned away
pub waits-more : (session : ℕ) (start before after : List Step) → Waits session start before
    → (after ≡ before) ⊎ ((from : ℕ) × IsFree from × (after ≡ before ++ visit session TakeToChange from PutWanted 2)) → Waits session start after
waits-more session start before after w turned = ⊎_elim (λ e. (w.0, w.1, e ∙ w.2))
    (λ t. let v = visit session TakeToChange t.0 PutWanted 2 in (
      w.0 ++ t.0 ∷ [],
      All-push IsFree w.0 t.0 w.1 t.1,
      t.2 ∙ (ap (λ l. l ++ v) w.2 ∙ (append_assoc start (rounds session w.0) v ∙ ap (λ l. start ++ l) (sym (rounds-more session w.0 t.0)))),
    )) turned

module _ {D Y J : Type 0} (session session' : ℕ) (same : session' ≡ session) (start before after : List Step) (waited : Waits session start before) (reply : Result (Result D Y) J)
    (made : Attempts session' before reply after) where
  -- an attempt that was turned away
  pub attempts-more : (job : J) → reply ≡ Err job → Waits session start after
  attempts-more job is = waits-more session start before after waited
      (subst (λ (z : ℕ × Result (Result D Y) J). Attempts z.0 before z.1 after) (λ i. (same i, is i)) made)

  -- an attempt that went in
  pub attempts-last : (done : Result D Y) → reply ≡ Ok done → Writes session start done after
  attempts-last done is =
      let t = subst (λ (z : ℕ × Result (Result D Y) J). Attempts z.0 before z.1 after) (λ i. (same i, is i)) made in (before, t.0, waited, t.1, t.2)

-- a share more of a `read`
share-more : (session n : ℕ) (start before after : List Step) → before ≡ start ++ shares session n → after ≡ before ++ visit session TakeToShare 0 PutAsItWas 0
    → after ≡ start ++ shares session (suc n)
share-more session n start before after so_far more = let v = visit session TakeToShare 0 PutAsItWas 0 in
    more ∙ (ap (λ l. l ++ v) so_far ∙ append_assoc start (shares session n) v)

module _ {A : Type 0} (session session' : ℕ) (same : session' ≡ session) (start before after : List Step) (so_far : (n : ℕ) × (before ≡ start ++ shares session n)) (answer : Option A)
    (tried : TriesToRead session' before answer after) where
  -- a try more of a `read`
  pub tries-more : (n : ℕ) × (after ≡ start ++ shares session n)
  tries-more = one_more answer (subst (λ s. TriesToRead s before answer after) same tried)
    where
      one_more : (answer : Option A) → TriesToRead session before answer after → (n : ℕ) × (after ≡ start ++ shares session n)
      one_more (Some a) t = (suc so_far.0, share-more session so_far.0 start before after so_far.1 t)
      one_more None t = ⊎_elim (λ e. (so_far.0, e ∙ so_far.1)) (λ more. (suc so_far.0, share-more session so_far.0 start before after so_far.1 more)) t

  -- the last try of a `read`
  pub tries-last : (a : A) → answer ≡ Some a → Reads session start after
  tries-last a is = (
    so_far.0,
    share-more session so_far.0 start before after so_far.1
        (subst (λ (z : ℕ × Option A). TriesToRead z.0 before z.1 after) (λ i. (same i, is i)) tried),
  )
