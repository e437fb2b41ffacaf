-- Numbers of a list that are there, and one of three tests.
use Rattle.std.proofs.Common.{◌≡◌, ℕ, ◌<◌, Bool, true, false, ◌||◌, refl, Some, List, length, slice_index, slice_get}
use Rattle.std.proofs.lemmas.Bool.{or_left, or_right}
use Rattle.std.proofs.lemmas.Option.{get_or_from_slice_get, slice_get-get_or}

-- a generation that is there is the one that is read
pub read : (xs : List ℕ) (i g : ℕ) → slice_get xs i ≡ Some g → slice_index xs i ≡ g
read xs i g h = get_or_from_slice_get xs i g 0 h

pub there : (xs : List ℕ) (i : ℕ) → i < length xs → slice_get xs i ≡ Some (slice_index xs i)
there xs i l = slice_get-get_or xs i 0 l

-- one of three tests
pub one_of : (P : Type 0) (a b c : Bool) → (a || b || c) ≡ true → (a ≡ true → P) → (b ≡ true → P) → (c ≡ true → P) → P
one_of P true b c h f g k = f refl
one_of P false true c h f g k = g refl
one_of P false false c h f g k = k h

pub first_of_three : (a b c : Bool) → a ≡ true → (a || b || c) ≡ true
first_of_three a b c h = or_left (a || b) c (or_left a b h)

pub second_of_three : (a b c : Bool) → b ≡ true → (a || b || c) ≡ true
second_of_three a b c h = or_left (a || b) c (or_right a b h)

pub last_of_three : (a b c : Bool) → (b || c) ≡ true → (a || b || c) ≡ true
last_of_three true b c h = refl
last_of_three false b c h = h
