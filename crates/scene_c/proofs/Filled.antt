-- A list that is filled from another one, item by item from the first, as far as both go.
use Rattle.std.proofs.Common.{◌≡◌, ◌<◌, ◌+◌, ℕ, zero, suc, List, [], ◌∷◌, ◌++◌, length, take, drop, refl, ap, sym, ◌∙◌, arith, add-one, Some, None}
use Rattle.std.specs.Prelude.{slice_get, slice_set, min}
use Rattle.scene_c.specs.Memory.{copied}

module _ {X : Type 0} where
  -- one more is written
  fill_suc : (n : ℕ) (new old : List X) (x : X) → n < length old → slice_get new n ≡ Some x → slice_set (take n new ++ drop n old) n x ≡ take (suc n) new ++ drop (suc n) old
  fill_suc n [] old x low is = absurd (let g : None ≡ Some x = is in cc)
  fill_suc n (y ∷ new) [] x low is = absurd (omega (arith, low))
  fill_suc zero (y ∷ new) (z ∷ old) x low is = ap (λ t. t ∷ old) (let g : Some y ≡ Some x = is in cc)
  fill_suc (suc n) (y ∷ new) (z ∷ old) x low is = ap (λ t. y ∷ t) (fill_suc n new old x (omega (arith, low)) is)

  pub fill_more : (n : ℕ) (new old now : List X) (x : X) → now ≡ take n new ++ drop n old → n < length old → slice_get new n ≡ Some x → slice_set now n x ≡ take (n + 1) new ++ drop (n + 1) old
  fill_more n new old now x is low g = ap (λ t. slice_set t n x) is ∙ fill_suc n new old x low g ∙ ap (λ k. take k new ++ drop k old) (sym (add-one n))

  -- there is no more to write, or no more room
  fill_end : (n : ℕ) (new old : List X) → min (length new) (length old) ≡ n → take n new ++ drop n old ≡ copied new old
  fill_end zero [] [] e = refl
  fill_end zero [] (z ∷ old) e = refl
  fill_end zero (y ∷ new) [] e = refl
  fill_end zero (y ∷ new) (z ∷ old) e = absurd (omega (arith, e))
  fill_end (suc n) [] old e = absurd (omega (arith, e))
  fill_end (suc n) (y ∷ new) [] e = absurd (omega (arith, e))
  fill_end (suc n) (y ∷ new) (z ∷ old) e = ap (λ t. y ∷ t) (fill_end n new old (omega (arith, e)))

  pub fill_all : (n : ℕ) (new old now : List X) → now ≡ take n new ++ drop n old → min (length new) (length old) ≡ n → now ≡ copied new old
  fill_all n new old now is e = is ∙ fill_end n new old e
