-- The parts of a list, of which each value passes a test.
use Rattle.std.proofs.Common.{◌≡◌, ◌&&◌, ℕ, zero, suc, List, [], ◌∷◌, take, drop, refl, ap, ◌∙◌, true, Bool}
use Rattle.std.specs.List.{list_all}
use Rattle.scene_table.proofs.Walks.{and_left, and_right}

module _ {X : Type 0} (p : X → Bool) where
  pub passes_drop : (n : ℕ) (xs : List X) → list_all p xs ≡ true → list_all p (drop n xs) ≡ true
  passes_drop zero xs all = all
  passes_drop (suc n) [] all = refl
  passes_drop (suc n) (x ∷ xs) all = passes_drop n xs (and_right (p x) (list_all p xs) all)

  pub passes_take : (n : ℕ) (xs : List X) → list_all p xs ≡ true → list_all p (take n xs) ≡ true
  passes_take zero xs all = refl
  passes_take (suc n) [] all = refl
  passes_take (suc n) (x ∷ xs) all = ap (λ b. b && list_all p (take n xs)) (and_left (p x) (list_all p xs) all) ∙ passes_take n xs (and_right (p x) (list_all p xs) all)
