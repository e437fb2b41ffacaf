-- Sums that stop at a highest number.
use Rattle.std.proofs.Common.{◌≡◌, ℕ, ◌+◌, ◌<◌, List, [], ◌∷◌, length, take, get_or, ap, sym, ◌∙◌, arith, append-nil}
use Rattle.std.specs.Prelude.{min}
use Rattle.std.specs.List.{flat_map}
use Rattle.std.proofs.lemmas.List.{take_more, length-append}
use Rattle.std.proofs.lemmas.Grind.{flat_map-append}

-- a sum of what stopped and what didn't
stopped_and : (a b m : ℕ) → min (min a m + b) m ≡ min (a + b) m
stopped_and a b m = omega arith

-- and of two that stopped
stopped_both : (a b m : ℕ) → min (min a m + min b m) m ≡ min (a + b) m
stopped_both a b m = omega arith

-- how many there are with one element more
length_more : {X Y : Type 0} (f : X → List Y) (xs : List X) (i : ℕ) (x : X) → i < length xs → x ≡ get_or xs i x
    → length (flat_map f (take (i + 1) xs)) ≡ length (flat_map f (take i xs)) + length (f x)
length_more f xs i x lt here =
    ap (λ ys. length (flat_map f ys)) (take_more xs i x lt)
    ∙ ap length (flat_map-append f (take i xs) (get_or xs i x ∷ []))
    ∙ length-append (flat_map f (take i xs)) (flat_map f (get_or xs i x ∷ []))
    ∙ ap (λ ys. length (flat_map f (take i xs)) + length ys) (append-nil (f (get_or xs i x)) ∙ ap f (sym here))

-- one element more is counted
pub count_more : {X Y : Type 0} (f : X → List Y) (xs : List X) (i : ℕ) (x : X) (m count next sum : ℕ) → i < length xs → x ≡ get_or xs i x
    → count ≡ min (length (flat_map f (take i xs))) m → next ≡ length (f x) → sum ≡ min (count + next) m
    → sum ≡ min (length (flat_map f (take (i + 1) xs))) m
count_more f xs i x m count next sum lt here so one is =
    is ∙ ap (λ c. min (c + next) m) so ∙ stopped_and (length (flat_map f (take i xs))) next m
    ∙ ap (λ n. min (length (flat_map f (take i xs)) + n) m) one ∙ ap (λ n. min n m) (sym (length_more f xs i x lt here))

-- and one of which the count stopped
pub count_stopped : {X Y : Type 0} (f : X → List Y) (xs : List X) (i : ℕ) (x : X) (m count next sum : ℕ) → i < length xs → x ≡ get_or xs i x
    → count ≡ min (length (flat_map f (take i xs))) m → next ≡ min (length (f x)) m → sum ≡ min (count + next) m
    → sum ≡ min (length (flat_map f (take (i + 1) xs))) m
count_stopped f xs i x m count next sum lt here so one is =
    is ∙ ap (λ c. min (c + next) m) so ∙ ap (λ n. min (min (length (flat_map f (take i xs))) m + n) m) one
    ∙ stopped_both (length (flat_map f (take i xs))) (length (f x)) m ∙ ap (λ n. min n m) (sym (length_more f xs i x lt here))
