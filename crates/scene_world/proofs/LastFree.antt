-- The index that a take of a slot reuses, as code finds it: by the last place of the free list.
use Rattle.std.proofs.Common.{◌≡◌, ℕ, zero, suc, ◌+◌, ◌-◌, List, [], ◌∷◌, length, refl, ap, sym, ◌∙◌, arith, slice_get, slice_index, Some}
use Rattle.scene_alloc.specs.Ends.{last}
use Rattle.scene_alloc.specs.Slots.{SlotState, take_from, take_of}
use Rattle.scene_model.specs.Raw.{taken_entity}

last_at : (xs : List ℕ) (n : ℕ) → n + 1 ≡ length xs → slice_get xs n ≡ last xs
last_at [] n e = refl
last_at (x ∷ []) zero e = refl
last_at (x ∷ []) (suc n) e = absurd (omega (arith, e))
last_at (x ∷ y ∷ ys) zero e = absurd (omega (arith, e))
last_at (x ∷ y ∷ ys) (suc n) e = last_at (y ∷ ys) n (omega (arith, e))

last_is : (xs : List ℕ) → slice_get xs (length xs - 1) ≡ last xs
last_is [] = refl
last_is (x ∷ xs) = last_at (x ∷ xs) (length (x ∷ xs) - 1) (omega arith)

pub reused : (s : SlotState) (i : ℕ) → slice_get s.free (length s.free - 1) ≡ Some i → taken_entity (take_of s) ≡ Some (record { index = i; generation = slice_index s.generations i })
reused s i at = ap (λ o. taken_entity (take_from s o)) (sym (last_is s.free) ∙ at)
