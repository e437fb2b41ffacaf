-- The last of a list, by its place.
use Rattle.std.proofs.Common.{◌≡◌, ℕ, zero, suc, ◌+◌, ◌-◌, List, [], ◌∷◌, length, refl, arith, slice_get}
use Rattle.scene_alloc.specs.Ends.{last}

pub last_at : {X : Type 0} (xs : List X) (n : ℕ) → n + 1 ≡ length xs → slice_get xs n ≡ last xs
last_at [] n e = refl
last_at (x ∷ []) zero e = refl
last_at (x ∷ []) (suc n) e = absurd (omega (arith, e))
last_at (x ∷ y ∷ ys) zero e = absurd (omega (arith, e))
last_at (x ∷ y ∷ ys) (suc n) e = last_at (y ∷ ys) n (omega (arith, e))

pub last_is : {X : Type 0} (xs : List X) → slice_get xs (length xs - 1) ≡ last xs
last_is [] = refl
last_is (x ∷ xs) = last_at (x ∷ xs) (length (x ∷ xs) - 1) (omega arith)
