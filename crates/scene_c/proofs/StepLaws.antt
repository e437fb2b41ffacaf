-- A list that is gone through one by one.
use Rattle.std.proofs.Common.{◌≡◌, ◌≤◌, ◌<◌, ◌+◌, ℕ, zero, suc, List, [], ◌∷◌, length, drop, Some, ap, ◌∙◌, arith, add-one}
use Rattle.std.specs.Prelude.{slice_get}
use Rattle.std.proofs.lemmas.List.{length-drop}

module _ {A : Type 0} where
  -- the next one that is left stands at the place
  pub next_at : (n : ℕ) (xs rest : List A) (x : A) → drop n xs ≡ x ∷ rest → (slice_get xs n ≡ Some x) × (drop (n + 1) xs ≡ rest) × (n < length xs)
  next_at n xs rest x e = let h = at n xs e in (h.0, ap (λ k. drop k xs) (add-one n) ∙ h.1, h.2)
    where
      at : (n : ℕ) (xs : List A) → drop n xs ≡ x ∷ rest → (slice_get xs n ≡ Some x) × (drop (suc n) xs ≡ rest) × (n < length xs)
      at zero [] e = absurd (let g : [] ≡ x ∷ rest = e in cc)
      at (suc n) [] e = absurd (let g : [] ≡ x ∷ rest = e in cc)
      at zero (y ∷ ys) e = (ap (λ t. slice_get t 0) e, ap (drop 1) e, omega arith)
      at (suc n) (y ∷ ys) e = let h = at n ys e in (h.0, h.1, omega (arith, h.2))

  -- where none is left, so many are gone as there are
  pub none_left : (n : ℕ) (xs : List A) → drop n xs ≡ [] → length xs ≤ n
  none_left n xs e = omega (arith, ap length e, length-drop n xs)
