-- Histories that grow.
use Rattle.std.proofs.Common.{◌≡◌, ◌≢◌, ◌<◌, ℕ, zero, suc, List, [], ◌∷◌, ◌++◌, cond, eqb, eq-eqb, ne_eqb, sym, ap, ◌∙◌, arith}
use Rattle.std.specs.List.{All}
use Rattle.std.proofs.lemmas.List.Elements.{All-append, filter-append}
use mathlib.Core.List.{append-nil, append_assoc}
use Rattle.scene_lock.specs.History.{BeginsWith, Continues, entries_of}

module _ {E : Type 0} where
  pub begins-itself : (h : List E) → BeginsWith h h
  begins-itself h = ([], sym (append-nil h))

  pub begins-further : (seen h longer : List E) → BeginsWith h seen → BeginsWith longer h → BeginsWith longer seen
  begins-further seen h longer a b = (a.0 ++ b.0, b.1 ∙ (ap (λ l. l ++ b.0) a.1 ∙ append_assoc seen a.0 b.0))

  module _ (by : E → ℕ) where
    pub entries_of-other : (session : ℕ) (h : List E) (e : E) → by e ≢ session → entries_of by session (h ++ e ∷ []) ≡ entries_of by session h
    entries_of-other session h e other = filter-append (λ x. eqb (by x) session) h (e ∷ [])
        ∙ (ap (λ b. entries_of by session h ++ cond b (e ∷ []) []) (ne_eqb (by e) session other) ∙ append-nil (entries_of by session h))

    pub entries_of-own : (session : ℕ) (h : List E) (e : E) → by e ≡ session → entries_of by session (h ++ e ∷ []) ≡ entries_of by session h ++ e ∷ []
    entries_of-own session h e own = filter-append (λ x. eqb (by x) session) h (e ∷ [])
        ∙ ap (λ b. entries_of by session h ++ cond b (e ∷ []) []) (eq-eqb (by e) session own)

    pub continues-further : (session : ℕ) (seen h longer : List E) → Continues by session seen h → Continues by session h longer → Continues by session seen longer
    continues-further session seen h longer a b = (begins-further seen h longer a.0 b.0, b.1 ∙ a.1)

    pub all_below-entered : (n : ℕ) (h : List E) (e : E) → All (λ x. by x < n) h → by e < n → All (λ x. by x < n) (h ++ e ∷ [])
    all_below-entered n h e all below = All-append (λ x. by x < n) h (e ∷ []) all (one_below n e below)
      where
        one_below : (n : ℕ) (e : E) → by e < n → All (λ x. by x < n) (e ∷ [])
        one_below n e below zero d lt = below
        one_below n e below (suc k) d lt = absurd (omega arith)
