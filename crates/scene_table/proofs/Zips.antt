-- Two lists made one: what is done to both is done to the one.
use Rattle.std.proofs.Common.{◌≡◌, ◌≤◌, ◌-◌, ◌∙◌, ℕ, zero, suc, Bool, true, false, List, [], ◌∷◌, ◌++◌, length, length-take, length-drop, take, drop, refl, ap, sym, arith, Some, None}
use Rattle.std.specs.Prelude.{◌||◌, slice_get, slice_range, slice_set}
use Rattle.std.specs.List.{list_any}
use Rattle.scene_table.specs.Rows.{last_of, front_of, last_first, swap_out, put_back}
use Rattle.scene_table.specs.Columns.{zip_with}

-- parts of lists of one length are as long as one another
pub parts-length : {X Y : Type 0} (xs : List X) (ys : List Y) → length xs ≡ length ys → (from to : ℕ) → length (slice_range xs from to) ≡ length (slice_range ys from to)
parts-length xs ys e from to = omega (arith, length-take (to - from) (drop from xs), length-take (to - from) (drop from ys), length-drop from xs, length-drop from ys)

module _ {X Y Z : Type 0} (f : X → Y → Z) where
  -- it is as long as both
  pub zip-length : (xs : List X) (ys : List Y) → length xs ≡ length ys → length (zip_with f xs ys) ≡ length xs
  zip-length [] ys e = refl
  zip-length (x ∷ xs) [] e = absurd (omega arith)
  zip-length (x ∷ xs) (y ∷ ys) e = ap (λ n. suc n) (zip-length xs ys (omega arith))

  -- it is no longer than either
  pub zip-low : (xs : List X) (ys : List Y) → (length (zip_with f xs ys) ≤ length xs) × (length (zip_with f xs ys) ≤ length ys)
  zip-low [] ys = (omega arith, omega arith)
  zip-low (x ∷ xs) [] = (omega arith, omega arith)
  zip-low (x ∷ xs) (y ∷ ys) = let rest = zip-low xs ys in (omega (arith, rest.0), omega (arith, rest.1))

  -- the first of both, and those behind them
  pub zip-take : (n : ℕ) (xs : List X) (ys : List Y) → take n (zip_with f xs ys) ≡ zip_with f (take n xs) (take n ys)
  zip-take zero xs ys = refl
  zip-take (suc n) [] ys = refl
  zip-take (suc n) (x ∷ xs) [] = refl
  zip-take (suc n) (x ∷ xs) (y ∷ ys) = ap (λ t. f x y ∷ t) (zip-take n xs ys)

  zip-none : (xs : List X) → zip_with f xs [] ≡ []
  zip-none [] = refl
  zip-none (x ∷ xs) = refl

  pub zip-drop : (n : ℕ) (xs : List X) (ys : List Y) → drop n (zip_with f xs ys) ≡ zip_with f (drop n xs) (drop n ys)
  zip-drop zero xs ys = refl
  zip-drop (suc n) [] ys = refl
  zip-drop (suc n) (x ∷ xs) [] = sym (zip-none (drop n xs))
  zip-drop (suc n) (x ∷ xs) (y ∷ ys) = zip-drop n xs ys

  -- one more of each
  pub zip-last : (xs : List X) (ys : List Y) (x : X) (y : Y) → length xs ≡ length ys → zip_with f (xs ++ x ∷ []) (ys ++ y ∷ []) ≡ zip_with f xs ys ++ f x y ∷ []
  zip-last [] [] x y e = refl
  zip-last [] (v ∷ ys) x y e = absurd (omega arith)
  zip-last (u ∷ xs) [] x y e = absurd (omega arith)
  zip-last (u ∷ xs) (v ∷ ys) x y e = ap (λ t. f u v ∷ t) (zip-last xs ys x y (omega arith))

  -- the last of both
  zip-last_of : (x : X) (y : Y) (xs : List X) (ys : List Y) → length xs ≡ length ys → f (last_of x xs) (last_of y ys) ≡ last_of (f x y) (zip_with f xs ys)
  zip-last_of x y [] [] e = refl
  zip-last_of x y [] (v ∷ ys) e = absurd (omega arith)
  zip-last_of x y (u ∷ xs) [] e = absurd (omega arith)
  zip-last_of x y (u ∷ xs) (v ∷ ys) e = zip-last_of u v xs ys (omega arith)

  -- and all but the last
  zip-front_of : (x : X) (y : Y) (xs : List X) (ys : List Y) → length xs ≡ length ys → zip_with f (front_of x xs) (front_of y ys) ≡ front_of (f x y) (zip_with f xs ys)
  zip-front_of x y [] [] e = refl
  zip-front_of x y [] (v ∷ ys) e = absurd (omega arith)
  zip-front_of x y (u ∷ xs) [] e = absurd (omega arith)
  zip-front_of x y (u ∷ xs) (v ∷ ys) e = ap (λ t. f x y ∷ t) (zip-front_of u v xs ys (omega arith))

  zip-last_first : (xs : List X) (ys : List Y) → length xs ≡ length ys → zip_with f (last_first xs) (last_first ys) ≡ last_first (zip_with f xs ys)
  zip-last_first [] [] e = refl
  zip-last_first [] (y ∷ ys) e = absurd (omega arith)
  zip-last_first (x ∷ xs) [] e = absurd (omega arith)
  zip-last_first (x ∷ xs) (y ∷ ys) e = λ i. zip-last_of x y xs ys (omega arith) i ∷ zip-front_of x y xs ys (omega arith) i

  -- both leave a place by a swap
  pub zip-swap_out : (xs : List X) (ys : List Y) (i : ℕ) → length xs ≡ length ys → zip_with f (swap_out xs i) (swap_out ys i) ≡ swap_out (zip_with f xs ys) i
  zip-swap_out [] [] i e = refl
  zip-swap_out [] (y ∷ ys) i e = absurd (omega arith)
  zip-swap_out (x ∷ xs) [] i e = absurd (omega arith)
  zip-swap_out (x ∷ xs) (y ∷ ys) zero e = zip-last_first xs ys (omega arith)
  zip-swap_out (x ∷ xs) (y ∷ ys) (suc i) e = ap (λ t. f x y ∷ t) (zip-swap_out xs ys i (omega arith))

  -- both are put back at a place
  pub zip-put_back : (xs : List X) (ys : List Y) (i : ℕ) (x : X) (y : Y) → length xs ≡ length ys → zip_with f (put_back xs i x) (put_back ys i y) ≡ put_back (zip_with f xs ys) i (f x y)
  zip-put_back [] [] i x y e = refl
  zip-put_back [] (v ∷ ys) i x y e = absurd (omega arith)
  zip-put_back (u ∷ xs) [] i x y e = absurd (omega arith)
  zip-put_back (u ∷ xs) (v ∷ ys) zero x y e = ap (λ t. f x y ∷ t) (zip-last xs ys u v (omega arith))
  zip-put_back (u ∷ xs) (v ∷ ys) (suc i) x y e = ap (λ t. f u v ∷ t) (zip-put_back xs ys i x y (omega arith))

  -- both are written at a place
  pub zip-set : (xs : List X) (ys : List Y) (i : ℕ) (x : X) (y : Y) → length xs ≡ length ys → zip_with f (slice_set xs i x) (slice_set ys i y) ≡ slice_set (zip_with f xs ys) i (f x y)
  zip-set [] ys i x y e = refl
  zip-set (u ∷ xs) [] i x y e = absurd (omega arith)
  zip-set (u ∷ xs) (v ∷ ys) zero x y e = refl
  zip-set (u ∷ xs) (v ∷ ys) (suc i) x y e = ap (λ t. f u v ∷ t) (zip-set xs ys i x y (omega arith))

  -- both stand at a place
  pub zip-get : (xs : List X) (ys : List Y) (i : ℕ) (x : X) (y : Y) → slice_get xs i ≡ Some x → slice_get ys i ≡ Some y → slice_get (zip_with f xs ys) i ≡ Some (f x y)
  zip-get [] ys i x y h k = absurd (let g : None ≡ Some x = h in cc)
  zip-get (u ∷ xs) [] i x y h k = absurd (let g : None ≡ Some y = k in cc)
  zip-get (u ∷ xs) (v ∷ ys) zero x y h k = cc
  zip-get (u ∷ xs) (v ∷ ys) (suc i) x y h k = zip-get xs ys i x y h k

  -- a part of it is made of the parts of both
  pub zip-part : (xs : List X) (ys : List Y) (from to : ℕ) → slice_range (zip_with f xs ys) from to ≡ zip_with f (slice_range xs from to) (slice_range ys from to)
  zip-part xs ys from to = ap (take (to - from)) (zip-drop from xs ys) ∙ zip-take (to - from) (drop from xs) (drop from ys)

  -- a test of what is made is one of the first, of the second, or of either
  pub zip-any-first : (r : Z → Bool) (p : X → Bool) → ((x : X) (y : Y) → r (f x y) ≡ p x) → (xs : List X) (ys : List Y) → length xs ≡ length ys → list_any r (zip_with f xs ys) ≡ list_any p xs
  zip-any-first r p h [] ys e = refl
  zip-any-first r p h (x ∷ xs) [] e = absurd (omega arith)
  zip-any-first r p h (x ∷ xs) (y ∷ ys) e = λ i. h x y i || zip-any-first r p h xs ys (omega arith) i

  pub zip-any-second : (r : Z → Bool) (q : Y → Bool) → ((x : X) (y : Y) → r (f x y) ≡ q y) → (xs : List X) (ys : List Y) → length xs ≡ length ys → list_any r (zip_with f xs ys) ≡ list_any q ys
  zip-any-second r q h [] [] e = refl
  zip-any-second r q h [] (y ∷ ys) e = absurd (omega arith)
  zip-any-second r q h (x ∷ xs) [] e = absurd (omega arith)
  zip-any-second r q h (x ∷ xs) (y ∷ ys) e = λ i. h x y i || zip-any-second r q h xs ys (omega arith) i

  pub zip-any-either : (r : Z → Bool) (p : X → Bool) (q : Y → Bool) → ((x : X) (y : Y) → r (f x y) ≡ (p x || q y)) → (xs : List X) (ys : List Y) → length xs ≡ length ys
      → list_any r (zip_with f xs ys) ≡ (list_any p xs || list_any q ys)
  zip-any-either r p q h [] [] e = refl
  zip-any-either r p q h [] (y ∷ ys) e = absurd (omega arith)
  zip-any-either r p q h (x ∷ xs) [] e = absurd (omega arith)
  zip-any-either r p q h (x ∷ xs) (y ∷ ys) e =
      (λ i. h x y i || zip-any-either r p q h xs ys (omega arith) i) ∙ exchanged (p x) (q y) (list_any p xs) (list_any q ys)
    where
      exchanged : (a b c d : Bool) → ((a || b) || (c || d)) ≡ ((a || c) || (b || d))
      exchanged true b c d = refl
      exchanged false true true d = refl
      exchanged false true false d = refl
      exchanged false false c d = refl
