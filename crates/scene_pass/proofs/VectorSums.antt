-- The sum of two vectors, coordinate by coordinate.
use Rattle.std.proofs.Common.{◌≡◌, List, [], ◌∷◌, length, slice_index_or, refl, arith, Option, Some, None}
use Rattle.std.specs.Prelude.{ℤ, pos, option_map}
use Rattle.std.specs.Option.{option_and_then}
use Rattle.scene_pass.specs.Changes.{sum, sums}
use Rattle.scene_pass.specs.InPlace.{three}

one_by_one : (p q r : Option ℤ) → three p q r
    ≡ option_and_then (λ x. option_map (λ xs. x ∷ xs) (option_and_then (λ y. option_map (λ ys. y ∷ ys) (option_and_then (λ z. option_map (λ zs. z ∷ zs) (Some [])) r)) q)) p
one_by_one None q r = refl
one_by_one (Some x) None r = refl
one_by_one (Some x) (Some y) None = refl
one_by_one (Some x) (Some y) (Some z) = refl

-- three sums are those of all coordinates
pub three_sums : (xs ys : List ℤ) → length xs ≡ 3 → length ys ≡ 3
    → three (sum (slice_index_or xs 0 (pos 0)) (slice_index_or ys 0 (pos 0))) (sum (slice_index_or xs 1 (pos 0)) (slice_index_or ys 1 (pos 0))) (sum (slice_index_or xs 2 (pos 0)) (slice_index_or ys 2 (pos 0))) ≡ sums xs ys
three_sums [] ys h g = absurd (omega (arith, h))
three_sums (x ∷ []) ys h g = absurd (omega (arith, h))
three_sums (x ∷ y ∷ []) ys h g = absurd (omega (arith, h))
three_sums (x ∷ y ∷ z ∷ w ∷ xs) ys h g = absurd (omega (arith, h))
three_sums (x ∷ y ∷ z ∷ []) [] h g = absurd (omega (arith, g))
three_sums (x ∷ y ∷ z ∷ []) (a ∷ []) h g = absurd (omega (arith, g))
three_sums (x ∷ y ∷ z ∷ []) (a ∷ b ∷ []) h g = absurd (omega (arith, g))
three_sums (x ∷ y ∷ z ∷ []) (a ∷ b ∷ c ∷ d ∷ ys) h g = absurd (omega (arith, g))
three_sums (x ∷ y ∷ z ∷ []) (a ∷ b ∷ c ∷ []) h g = one_by_one (sum x a) (sum y b) (sum z c)
