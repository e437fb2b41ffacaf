-- The rule of rows: how a row leaves a list, and how it comes back.
use Rattle.std.specs.Prelude.{◌≡◌, ℕ, zero, suc, ◌<◌, ◌≤◌, length, List, [], ◌∷◌, ◌++◌, Some, slice_get}

-- the last of x and xs
abbrev pub last_of : {X : Type 0} → X → List X → X
last_of x [] = x
last_of x (y ∷ ys) = last_of y ys

-- x and xs without the last of them
abbrev pub front_of : {X : Type 0} → X → List X → List X
front_of x [] = []
front_of x (y ∷ ys) = x ∷ front_of y ys

-- the last row goes before the others
abbrev pub last_first : {X : Type 0} → List X → List X
last_first [] = []
last_first (x ∷ xs) = last_of x xs ∷ front_of x xs

-- the rows without the last, with the last at i; where i is the last place, just without it
abbrev pub swap_out : {X : Type 0} → List X → ℕ → List X
swap_out [] i = []
swap_out (x ∷ xs) zero = last_first xs
swap_out (x ∷ xs) (suc i) = x ∷ swap_out xs i

-- the rows with r at i and the row that stood there last; where i is the length, the rows and then r
abbrev pub put_back : {X : Type 0} → List X → ℕ → X → List X
put_back [] i r = r ∷ []
put_back (x ∷ xs) zero r = r ∷ xs ++ x ∷ []
put_back (x ∷ xs) (suc i) r = x ∷ put_back xs i r

-- a row that left comes back to its place, and every other row to its own
abbrev pub SwapOutComesBack : Type 0 → Type 0
SwapOutComesBack X = (rows : List X) (i : ℕ) (r : X) → slice_get rows i ≡ Some r → put_back (swap_out rows i) i r ≡ rows

-- where a row left, one may be put back
abbrev pub SwapOutLeavesAPlace : Type 0 → Type 0
SwapOutLeavesAPlace X = (rows : List X) (i : ℕ) → i < length rows → i ≤ length (swap_out rows i)

-- a row that was put back stands at its place
abbrev pub PutBackStands : Type 0 → Type 0
PutBackStands X = (rows : List X) (i : ℕ) (r : X) → i ≤ length rows → slice_get (put_back rows i r) i ≡ Some r

-- where a row that was put back leaves again, each row is where it was
abbrev pub PutBackComesBack : Type 0 → Type 0
PutBackComesBack X = (rows : List X) (i : ℕ) (r : X) → i ≤ length rows → swap_out (put_back rows i r) i ≡ rows
