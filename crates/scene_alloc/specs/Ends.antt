-- The last of a list, and what stands before it.
use Rattle.std.specs.Prelude.{List, [], ◌∷◌, Option, Some, None}

-- the last element, where there is one
abbrev pub last : {X : Type 0} → List X → Option X
last [] = None
last (x ∷ []) = Some x
last (x ∷ y ∷ ys) = last (y ∷ ys)

-- all but the last element
abbrev pub front : {X : Type 0} → List X → List X
front [] = []
front (x ∷ []) = []
front (x ∷ y ∷ ys) = x ∷ front (y ∷ ys)
