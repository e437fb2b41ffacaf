-- The first place that a search finds is the position.
use Rattle.std.proofs.Common.{◌≡◌, ℕ, ◌<◌, List, length, Bool, true, false, Option, Some, None, refl, arith}
use Rattle.std.specs.Prelude.{position}
use Rattle.std.proofs.Math.ListN.{get_or}
use Rattle.std.proofs.lemmas.Grind.{common_steps}
use Rattle.std.proofs.lemmas.List.Sums.{position_or_len_is}
use Rattle.memchr.specs.Find.{IsFirstByte}

failed : (b : Bool) → ¬ (b ≡ true) → b ≡ false
failed true h = absurd (h refl)
failed false h = refl

-- the first byte that passes stands at the position
pub first_place : (p : ℕ → Bool) (xs : List ℕ) (r : Option ℕ) → IsFirstByte p xs r → r ≡ position p xs
first_place p xs None h =
    let at = position_or_len_is p xs (length xs) 0 (omega arith) (λ k low. failed (p (get_or xs k 0)) (h k (omega arith) low)) (λ low. absurd (omega (arith, low))) in
    grind (arith, common_steps, at)
first_place p xs (Some k) h =
    let at = position_or_len_is p xs k 0 (omega (arith, h.0.high)) (λ i low. failed (p (get_or xs i 0)) (h.0.before i (omega arith) low)) (λ _. h.1) in
    grind (arith, common_steps, at, h.0.high)
