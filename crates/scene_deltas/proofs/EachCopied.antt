-- A copy of a list, item by item, is the list.
use Rattle.std.proofs.Common.{◌≡◌, List, [], ◌∷◌, refl}
use Rattle.std.specs.List.{AllZip}

-- a list of copies, each of which equals what it copies, equals the list
pub each_copied : {X : Type 0} (R : X → X → Type 0) → ((x y : X) → R x y → y ≡ x) → (xs ys : List X) → AllZip R xs ys → ys ≡ xs
each_copied R same [] [] h = refl
each_copied R same [] (y ∷ ys) h = absurd h
each_copied R same (x ∷ xs) [] h = absurd h
each_copied R same (x ∷ xs) (y ∷ ys) h = λ i. same x y h.0 i ∷ each_copied R same xs ys h.1 i
