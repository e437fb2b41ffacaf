-- Who knows of every session all of its entries, and no others, knows the whole history.
use Rattle.std.proofs.Common.{◌≡◌, ◌≢◌, ◌<◌, ◌+◌, ℕ, zero, suc, List, [], ◌∷◌, ◌++◌, length, cond, eqb, eq-eqb, ne_eqb, refl, sym, ap, subst, ◌∙◌, arith, length-append}
use mathlib.Core.Logic.{dite}
use native.Mathlib.Decide.{ℕ_discrete}
use mathlib.Core.List.{append-nil, append_assoc}
use Rattle.std.specs.List.{All}
use Rattle.std.proofs.lemmas.List.Elements.{filter-append}
use Rattle.scene_lock.specs.History.{entries_of}

module _ {X : Type 0} (P : X → Type 0) where
  All-tail : (x : X) (xs : List X) → All P (x ∷ xs) → All P xs
  All-tail x xs all n d lt = all (suc n) d (omega (arith, lt))

  pub All-right : (xs ys : List X) → All P (xs ++ ys) → All P ys
  All-right [] ys all = all
  All-right (x ∷ xs) ys all = All-right xs ys (All-tail x (xs ++ ys) all)

  pub All-left : (xs ys : List X) → All P (xs ++ ys) → All P xs
  All-left [] ys all n d lt = absurd (omega (arith, lt))
  All-left (x ∷ xs) ys all zero d lt = all 0 d (omega arith)
  All-left (x ∷ xs) ys all (suc n) d lt = All-left xs ys (All-tail x (xs ++ ys) all) n d (omega (arith, lt))

module _ {E : Type 0} where
  empty_of_length : (xs : List E) → length xs ≡ 0 → xs ≡ []
  empty_of_length [] is = refl
  empty_of_length (x ∷ xs) is = absurd (omega (arith, is))

  -- what is added to a list that stays as it is, is nothing
  added_none : (xs ys : List E) → xs ++ ys ≡ xs → ys ≡ []
  added_none xs ys is = let n : length xs + length ys ≡ length xs = sym (length-append xs ys) ∙ ap length is in empty_of_length ys (omega (arith, n))

  pub first_none : (xs ys : List E) → xs ++ ys ≡ [] → xs ≡ []
  first_none [] ys is = refl
  first_none (x ∷ xs) ys is = let n : length (x ∷ (xs ++ ys)) ≡ 0 = ap length is in absurd (omega (arith, n))

  module _ (by : E → ℕ) where
    of-append : (s : ℕ) (xs ys : List E) → entries_of by s (xs ++ ys) ≡ entries_of by s xs ++ entries_of by s ys
    of-append s xs ys = filter-append (λ e. eqb (by e) s) xs ys

    of-own : (e : E) (es : List E) → entries_of by (by e) (e ∷ es) ≡ e ∷ entries_of by (by e) es
    of-own e es = ap (λ b. cond b (e ∷ entries_of by (by e) es) (entries_of by (by e) es)) (eq-eqb (by e) (by e) refl)

    of-other : (s : ℕ) (e : E) → by e ≢ s → entries_of by s (e ∷ []) ≡ []
    of-other s e other = ap (λ b. cond b (e ∷ []) []) (ne_eqb (by e) s other)

    module _ (n : ℕ) where
      -- where no session has an entry more, there is none
      pub nothing_more : (h later : List E) → All (λ e. by e < n) later → ((s : ℕ) → s < n → entries_of by s (h ++ later) ≡ entries_of by s h) → later ≡ []
      nothing_more h [] below same = refl
      nothing_more h (e ∷ later) below same =
          let none = added_none (entries_of by (by e) h) (entries_of by (by e) (e ∷ later)) (sym (of-append (by e) h (e ∷ later)) ∙ same (by e) (below 0 e (omega arith))) in
          let n : length (e ∷ entries_of by (by e) later) ≡ 0 = ap length (sym (of-own e later) ∙ none) in absurd (omega (arith, n))

      -- One entry of a session came after a history, and no other session has an entry more: then it came right after
      -- it, and last
      pub between : (h mid later whole : List E) (e : E) → whole ≡ ((h ++ mid) ++ e ∷ []) ++ later → All (λ x. by x < n) whole
          → entries_of by (by e) (h ++ mid) ≡ entries_of by (by e) h → entries_of by (by e) whole ≡ entries_of by (by e) ((h ++ mid) ++ e ∷ [])
          → ((s : ℕ) → s < n → by e ≢ s → entries_of by s whole ≡ entries_of by s h) → whole ≡ h ++ e ∷ []
      between h mid later whole e is below own own' others =
          let all = subst (All (λ x. by x < n)) is below in
          let front = All-left (λ x. by x < n) ((h ++ mid) ++ e ∷ []) later all in
          let before : (s : ℕ) → s < n → entries_of by s (h ++ mid) ≡ entries_of by s h = (λ s lt.
          dite (ℕ_discrete (by e) s) (λ same. subst (λ k. entries_of by k (h ++ mid) ≡ entries_of by k h) same own)
          (λ other. let rest = e ∷ [] ++ later in
          let both = sym (of-append s h (mid ++ rest)) ∙ ap (entries_of by s) (sym (is ∙ append_assoc (h ++ mid) (e ∷ []) later ∙ append_assoc h mid rest)) ∙ others s lt other in
          let none = added_none (entries_of by s h) (entries_of by s (mid ++ rest)) both in
          let mid_none = first_none (entries_of by s mid) (entries_of by s rest) (sym (of-append s mid rest) ∙ none) in
          of-append s h mid ∙ ap (λ l. entries_of by s h ++ l) mid_none ∙ append-nil (entries_of by s h))) in
          let mid_is = nothing_more h mid (All-right (λ x. by x < n) h mid (All-left (λ x. by x < n) (h ++ mid) (e ∷ []) front)) before in
          let later_is = nothing_more ((h ++ mid) ++ e ∷ []) later (All-right (λ x. by x < n) ((h ++ mid) ++ e ∷ []) later all) (λ s lt.
          ap (entries_of by s) (sym is) ∙ dite (ℕ_discrete (by e) s) (λ same. subst (λ k. entries_of by k whole ≡ entries_of by k ((h ++ mid) ++ e ∷ [])) same own')
          (λ other. others s lt other ∙ sym (of-append s (h ++ mid) (e ∷ []) ∙ ap (λ l. entries_of by s (h ++ mid) ++ l) (of-other s e other)
          ∙ append-nil (entries_of by s (h ++ mid)) ∙ before s lt))) in
          is ∙ (λ i. ((h ++ mid_is i) ++ e ∷ []) ++ later_is i) ∙ append-nil ((h ++ []) ++ e ∷ []) ∙ ap (λ l. l ++ e ∷ []) (append-nil h)
