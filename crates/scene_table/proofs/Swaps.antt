-- Rows that leave by a swap, and come back.
use Rattle.std.proofs.Common.{◌≡◌, ℕ, zero, suc, ◌+◌, ◌-◌, ◌<◌, ◌≤◌, List, [], ◌∷◌, ◌++◌, length, get_or, take, refl, ap, ◌∙◌, arith, length-append, Some}
use Rattle.std.specs.Prelude.{slice_set}
use Rattle.std.specs.List.{swap, swap_remove}
use Rattle.scene_table.specs.Rows.{last_of, front_of, last_first, swap_out, put_back, SwapOutLeavesAPlace, SwapOutComesBack, PutBackStands, PutBackComesBack}

-- the last put behind the others
front_then_last : {X : Type 0} (x : X) (xs : List X) → front_of x xs ++ last_of x xs ∷ [] ≡ x ∷ xs
front_then_last x [] = refl
front_then_last x (y ∷ ys) = ap (λ r. x ∷ r) (front_then_last y ys)

-- the last of a list to which one was added
last_of_pushed : {X : Type 0} (x y : X) (xs : List X) → last_of x (xs ++ y ∷ []) ≡ y
last_of_pushed x y [] = refl
last_of_pushed x y (z ∷ zs) = last_of_pushed z y zs

-- and all but that one
front_of_pushed : {X : Type 0} (x y : X) (xs : List X) → front_of x (xs ++ y ∷ []) ≡ x ∷ xs
front_of_pushed x y [] = refl
front_of_pushed x y (z ∷ zs) = ap (λ r. x ∷ r) (front_of_pushed z y zs)

-- one that was put last goes first
last_first_pushed : {X : Type 0} (xs : List X) (y : X) → last_first (xs ++ y ∷ []) ≡ y ∷ xs
last_first_pushed [] y = refl
last_first_pushed (x ∷ xs) y = ap (λ l. l ∷ front_of x (xs ++ y ∷ [])) (last_of_pushed x y xs) ∙ ap (λ f. y ∷ f) (front_of_pushed x y xs)

-- what stood first comes back before the others
back_to_front : {X : Type 0} (x r : X) (xs : List X) → Some x ≡ Some r → put_back (last_first xs) zero r ≡ x ∷ xs
back_to_front x r [] e = cc
back_to_front x r (y ∷ ys) e = let f : front_of y ys ++ last_of y ys ∷ [] ≡ y ∷ ys = front_then_last y ys in cc

-- the law of a row that left and comes back
pub swap_out_back : {X : Type 0} → SwapOutComesBack X
swap_out_back [] i r e = cc
swap_out_back (x ∷ xs) zero r e = back_to_front x r xs e
swap_out_back (x ∷ xs) (suc i) r e = ap (λ t. x ∷ t) (swap_out_back xs i r e)

-- the others of a list are as many as those behind the first
length-front_of : {X : Type 0} (x : X) (xs : List X) → length (front_of x xs) ≡ length xs
length-front_of x [] = refl
length-front_of x (y ∷ ys) = ap (λ n. suc n) (length-front_of y ys)

-- what is left is one less
pub length-swap_out : {X : Type 0} (rows : List X) (i : ℕ) → i < length rows → length (swap_out rows i) + 1 ≡ length rows
length-swap_out [] i l = absurd (omega arith)
length-swap_out (x ∷ []) zero l = refl
length-swap_out (x ∷ y ∷ ys) zero l = omega (arith, length-front_of y ys)
length-swap_out (x ∷ xs) (suc i) l = let n = length-swap_out xs i (omega arith) in omega arith

-- the law of the place that is left
pub swap_out_place : {X : Type 0} → SwapOutLeavesAPlace X
swap_out_place rows i l = omega (arith, length-swap_out rows i l)

pub ruleset swap_out_laws = (swap_out_place, swap_out_back)

-- the law of the place at which a row is put back
pub put_back_stands : {X : Type 0} → PutBackStands X
put_back_stands [] zero r h = refl
put_back_stands [] (suc i) r h = absurd (omega arith)
put_back_stands (x ∷ xs) zero r h = refl
put_back_stands (x ∷ xs) (suc i) r h = put_back_stands xs i r (omega arith)

-- the law of a row that was put back and leaves
pub put_back_back : {X : Type 0} → PutBackComesBack X
put_back_back [] zero r h = refl
put_back_back [] (suc i) r h = absurd (omega arith)
put_back_back (x ∷ xs) zero r h = last_first_pushed xs x
put_back_back (x ∷ xs) (suc i) r h = ap (λ t. x ∷ t) (put_back_back xs i r (omega arith))

-- the element at the last place
get_last : {X : Type 0} (x : X) (xs : List X) (d : X) → get_or (x ∷ xs) (length xs) d ≡ last_of x xs
get_last x [] d = refl
get_last x (y ∷ ys) d = get_last y ys d

-- all but the last, as a cut
take_front : {X : Type 0} (x : X) (xs : List X) → take (length xs) (x ∷ xs) ≡ front_of x xs
take_front x [] = refl
take_front x (y ∷ ys) = ap (λ r. x ∷ r) (take_front y ys)

-- the last written at i, and then cut off
cut_after_write : {X : Type 0} (x : X) (xs : List X) (i : ℕ) → i ≤ length xs → take (length xs) (slice_set (x ∷ xs) i (last_of x xs)) ≡ swap_out (x ∷ xs) i
cut_after_write x [] zero h = refl
cut_after_write x [] (suc i) h = absurd (omega arith)
cut_after_write x (y ∷ ys) zero h = ap (λ r. last_of y ys ∷ r) (take_front y ys)
cut_after_write x (y ∷ ys) (suc i) h = ap (λ r. x ∷ r) (cut_after_write y ys i (omega arith))

-- one less than the next number
one_less : (n : ℕ) → suc n - 1 ≡ n
one_less n = omega arith

-- a vector's removal by a swap is this one
pub swap_remove_is : {X : Type 0} (xs : List X) (i : ℕ) (d : X) → i < length xs → swap_remove xs i d ≡ swap_out xs i
swap_remove_is [] i d h = absurd (omega arith)
swap_remove_is (x ∷ xs) i d h = rw (one_less (length xs), get_last x xs d) (cut_after_write x xs i (omega arith))

-- the last element is written
write_last : {X : Type 0} (xs : List X) (x y : X) → slice_set (xs ++ x ∷ []) (length xs) y ≡ xs ++ y ∷ []
write_last [] x y = refl
write_last (z ∷ zs) x y = ap (λ t. z ∷ t) (write_last zs x y)

-- and read
read_last : {X : Type 0} (xs : List X) (x d : X) → get_or (xs ++ x ∷ []) (length xs) d ≡ x
read_last [] x d = refl
read_last (z ∷ zs) x d = read_last zs x d

-- the last written at i, and what stood there written last
exchanged : {X : Type 0} (xs : List X) (i : ℕ) (x d : X) → i ≤ length xs → slice_set (slice_set (xs ++ x ∷ []) i x) (length xs) (get_or (xs ++ x ∷ []) i d) ≡ put_back xs i x
exchanged [] zero x d h = refl
exchanged [] (suc i) x d h = absurd (omega arith)
exchanged (z ∷ zs) zero x d h = ap (λ t. x ∷ t) (write_last zs x z)
exchanged (z ∷ zs) (suc i) x d h = ap (λ t. z ∷ t) (exchanged zs i x d (omega arith))

-- one that is pushed, and swapped with the one at i, is put back there
pub swap_is : {X : Type 0} (xs : List X) (i j : ℕ) (x : X) → i ≤ length xs → j ≡ length xs → swap (xs ++ x ∷ []) i j ≡ put_back xs i x
swap_is [] i j x h e = ap (λ k. slice_set (slice_set (x ∷ []) i (get_or (x ∷ []) k x)) k (get_or (x ∷ []) i x)) e ∙ exchanged [] i x x h
swap_is (z ∷ zs) i j x h e =
    ap (λ k. slice_set (slice_set (z ∷ zs ++ x ∷ []) i (get_or (z ∷ zs ++ x ∷ []) k z)) k (get_or (z ∷ zs ++ x ∷ []) i z)) e
    ∙ ap (λ (y : _). slice_set (slice_set (z ∷ zs ++ x ∷ []) i y) (length (z ∷ zs)) (get_or (z ∷ zs ++ x ∷ []) i z)) (read_last (z ∷ zs) x z)
    ∙ exchanged (z ∷ zs) i x z h

-- one that is put back behind the last is pushed
pub put_back_last : {X : Type 0} (xs : List X) (x : X) → put_back xs (length xs) x ≡ xs ++ x ∷ []
put_back_last [] x = refl
put_back_last (z ∷ zs) x = ap (λ t. z ∷ t) (put_back_last zs x)

-- one more stands there
pub length-put_back : {X : Type 0} (xs : List X) (i : ℕ) (x : X) → length (put_back xs i x) ≡ length xs + 1
length-put_back [] i x = refl
length-put_back (z ∷ zs) zero x = omega (arith, length-append zs (z ∷ []))
length-put_back (z ∷ zs) (suc i) x = omega (arith, length-put_back zs i x)

-- the removal by a swap, and what is pushed and swapped, for search
pub ruleset swaps = (swap_remove_is, swap_is)

-- both laws of a row that is put back
pub ruleset put_back_laws = (put_back_stands, put_back_back)
