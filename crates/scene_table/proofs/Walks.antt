-- A list that is written, or compared with another, element by element from the first.
use Rattle.std.proofs.Common.{◌≡◌, ◌≤◌, ◌<◌, ◌+◌, ℕ, zero, suc, List, [], ◌∷◌, ◌++◌, length, take, drop, refl, ap, sym, ◌∙◌, arith, add-one, Some, None, true, false, Bool, ◌&&◌, get_or, map}
use Rattle.std.specs.Prelude.{slice_get, slice_set}
use Rattle.std.specs.List.{list_all, AllZip}

pub and_left : (a b : Bool) → (a && b) ≡ true → a ≡ true
and_left true b h = refl
and_left false b h = h

pub and_right : (a b : Bool) → (a && b) ≡ true → b ≡ true
and_right true b h = h
and_right false b h = absurd (let g : false ≡ true = h in cc)

module _ {X : Type 0} where
  -- one more is written
  write_suc : (n : ℕ) (new old : List X) (x : X) → length new ≡ length old → slice_get new n ≡ Some x → slice_set (take n new ++ drop n old) n x ≡ take (suc n) new ++ drop (suc n) old
  write_suc n [] old x e is = absurd (let g : None ≡ Some x = is in cc)
  write_suc n (y ∷ new) [] x e is = absurd (omega (arith, e))
  write_suc zero (y ∷ new) (z ∷ old) x e is = ap (λ t. t ∷ old) (let g : Some y ≡ Some x = is in cc)
  write_suc (suc n) (y ∷ new) (z ∷ old) x e is = ap (λ t. y ∷ t) (write_suc n new old x (omega (arith, e)) is)

  pub write_more : (n : ℕ) (new old now : List X) (x : X) → now ≡ take n new ++ drop n old → length new ≡ length old → slice_get new n ≡ Some x → slice_set now n x ≡ take (n + 1) new ++ drop (n + 1) old
  write_more n new old now x is e g = ap (λ t. slice_set t n x) is ∙ write_suc n new old x e g ∙ ap (λ k. take k new ++ drop k old) (sym (add-one n))

  -- all are written
  write_end : (n : ℕ) (new old : List X) → length new ≡ length old → length new ≤ n → take n new ++ drop n old ≡ new
  write_end zero [] [] e l = refl
  write_end (suc n) [] [] e l = refl
  write_end n [] (y ∷ old) e l = absurd (omega (arith, e))
  write_end n (x ∷ new) [] e l = absurd (omega (arith, e))
  write_end zero (x ∷ new) (y ∷ old) e l = absurd (omega arith)
  write_end (suc n) (x ∷ new) (y ∷ old) e l = ap (λ t. x ∷ t) (write_end n new old (omega (arith, e)) (omega arith))

  pub write_all : (n : ℕ) (new old now : List X) → now ≡ take n new ++ drop n old → length new ≡ length old → length new ≤ n → now ≡ new
  write_all n new old now is e l = is ∙ write_end n new old e l

  -- one more is the same
  same_suc : (n : ℕ) (a b : List X) (x : X) → take n a ≡ take n b → slice_get a n ≡ Some x → slice_get b n ≡ Some x → take (suc n) a ≡ take (suc n) b
  same_suc n [] b x e f g = absurd (let h : None ≡ Some x = f in cc)
  same_suc n (y ∷ a) [] x e f g = absurd (let h : None ≡ Some x = g in cc)
  same_suc zero (y ∷ a) (z ∷ b) x e f g = ap (λ t. t ∷ []) (let h : Some y ≡ Some x = f in let k : Some z ≡ Some x = g in cc)
  same_suc (suc n) (y ∷ a) (z ∷ b) x e f g = λ i. first e i ∷ same_suc n a b x (rest e) f g i
    where
      first : y ∷ take n a ≡ z ∷ take n b → y ≡ z
      first h = cc

      rest : y ∷ take n a ≡ z ∷ take n b → take n a ≡ take n b
      rest h = cc

  pub same_more : (n : ℕ) (a b : List X) (x : X) → take n a ≡ take n b → slice_get a n ≡ Some x → slice_get b n ≡ Some x → take (n + 1) a ≡ take (n + 1) b
  same_more n a b x e f g = ap (λ k. take k a) (add-one n) ∙ same_suc n a b x e f g ∙ ap (λ k. take k b) (sym (add-one n))

  -- all are the same
  pub same_all : (n : ℕ) (a b : List X) → take n a ≡ take n b → length a ≤ n → length b ≤ n → a ≡ b
  same_all zero [] [] e l m = refl
  same_all zero [] (z ∷ b) e l m = absurd (omega arith)
  same_all zero (y ∷ a) b e l m = absurd (omega arith)
  same_all (suc n) [] [] e l m = refl
  same_all (suc n) [] (z ∷ b) e l m = absurd (let g : [] ≡ z ∷ take n b = e in cc)
  same_all (suc n) (y ∷ a) [] e l m = absurd (let g : y ∷ take n a ≡ [] = e in cc)
  same_all (suc n) (y ∷ a) (z ∷ b) e l m = λ i. first e i ∷ same_all n a b (rest e) (omega arith) (omega arith) i
    where
      first : y ∷ take n a ≡ z ∷ take n b → y ≡ z
      first h = cc

      rest : y ∷ take n a ≡ z ∷ take n b → take n a ≡ take n b
      rest h = cc

-- each element passes a test that all pass
pub passes_at : {X : Type 0} (p : X → Bool) (xs : List X) (n : ℕ) (x : X) → list_all p xs ≡ true → slice_get xs n ≡ Some x → p x ≡ true
passes_at p [] n x all is = absurd (let g : None ≡ Some x = is in cc)
passes_at p (y ∷ xs) zero x all is = ap p (let g : Some y ≡ Some x = is in let h : x ≡ y = cc in h) ∙ and_left (p y) (list_all p xs) all
passes_at p (y ∷ xs) (suc n) x all is = passes_at p xs n x (and_right (p y) (list_all p xs) all) is

-- a test that one element doesn't pass
pub fails_at : {X : Type 0} (p : X → Bool) (xs : List X) (n : ℕ) (x : X) → slice_get xs n ≡ Some x → p x ≡ false → list_all p xs ≡ false
fails_at p [] n x is fail = absurd (let g : None ≡ Some x = is in cc)
fails_at p (y ∷ xs) zero x is fail = ap (λ b. b && list_all p xs) (ap p (let g : Some y ≡ Some x = is in let h : y ≡ x = cc in h) ∙ fail)
fails_at p (y ∷ xs) (suc n) x is fail = ap (λ b. p y && b) (fails_at p xs n x is fail) ∙ and_false (p y)
  where
    and_false : (b : Bool) → (b && false) ≡ false
    and_false true = refl
    and_false false = refl

pub passes_last : {X : Type 0} (p : X → Bool) (xs : List X) (x : X) → list_all p xs ≡ true → p x ≡ true → list_all p (xs ++ x ∷ []) ≡ true
passes_last p [] x all is = ap (λ b. b && true) is
passes_last p (y ∷ xs) x all is = ap (λ b. b && list_all p (xs ++ x ∷ [])) (and_left (p y) (list_all p xs) all) ∙ passes_last p xs x (and_right (p y) (list_all p xs) all) is

-- the first elements and the next
take_next : {X : Type 0} (n : ℕ) (xs : List X) (x : X) → slice_get xs n ≡ Some x → take n xs ++ x ∷ [] ≡ take (suc n) xs
take_next n [] x is = absurd (let g : None ≡ Some x = is in cc)
take_next zero (y ∷ xs) x is = ap (λ t. t ∷ []) (let g : Some y ≡ Some x = is in let h : x ≡ y = cc in h)
take_next (suc n) (y ∷ xs) x is = ap (λ t. y ∷ t) (take_next n xs x is)

pub take_more : {X : Type 0} (n : ℕ) (xs : List X) (x : X) → slice_get xs n ≡ Some x → take n xs ++ x ∷ [] ≡ take (n + 1) xs
take_more n xs x is = take_next n xs x is ∙ ap (λ k. take k xs) (sym (add-one n))

-- one of the elements that a function made
pub mapped_at : {X Y : Type 0} (f : X → Y) (xs : List X) (n : ℕ) (x : X) (d : Y) → n < length xs → x ≡ get_or xs n x → get_or (map f xs) n d ≡ f x
mapped_at f [] n x d l is = absurd (omega arith)
mapped_at f (y ∷ xs) zero x d l is = ap f (sym is)
mapped_at f (y ∷ xs) (suc n) x d l is = mapped_at f xs n x d (omega arith) is

pub map_last : {X Y : Type 0} (f : X → Y) (xs : List X) (x : X) → map f (xs ++ x ∷ []) ≡ map f xs ++ f x ∷ []
map_last f [] x = refl
map_last f (y ∷ xs) x = ap (λ t. f y ∷ t) (map_last f xs x)

-- a place in one of the lists that a function gives
pub within_lists : {X Y : Type 0} (f : X → List Y) (xs : List X) (n p : ℕ) → p < length (get_or (map f xs) n []) → n < length xs
within_lists f [] n p l = absurd (omega arith)
within_lists f (x ∷ xs) zero p l = omega arith
within_lists f (x ∷ xs) (suc n) p l = let rest = within_lists f xs n p l in omega arith

-- lists of copies
pub copied_lists : {X Y : Type 0} (f : X → Y) (same : X → X → Type 0) → ((x y : X) → same x y → f y ≡ f x) → (xs ys : List X) → AllZip same xs ys → map f ys ≡ map f xs
copied_lists f same each [] [] all = refl
copied_lists f same each [] (y ∷ ys) all = absurd all
copied_lists f same each (x ∷ xs) [] all = absurd all
copied_lists f same each (x ∷ xs) (y ∷ ys) all = λ i. each x y all.0 i ∷ copied_lists f same each xs ys all.1 i

pub and_true : (b : Bool) → b ≡ (b && true)
and_true true = refl
and_true false = refl

-- past the lists nothing stands
pub past_lists : {X Y : Type 0} (f : X → List Y) (xs : List X) (ys : List Y) (n : ℕ) → length xs ≤ n → length (get_or (map f xs) n []) ≡ length ys → ys ≡ get_or (map f xs) n []
past_lists f [] [] n l e = refl
past_lists f [] (y ∷ ys) n l e = absurd (omega (arith, e))
past_lists f (x ∷ xs) ys zero l e = absurd (omega arith)
past_lists f (x ∷ xs) ys (suc n) l e = past_lists f xs ys n (omega arith) e

-- a list that was lent whole, and came back as long
pub back_whole : {X : Type 0} (count : ℕ) (new old : List X) → count ≡ length old → length new ≡ length old → take count (new ++ drop (length new) old) ≡ new
back_whole zero [] [] e l = refl
back_whole (suc count) [] [] e l = refl
back_whole count [] (y ∷ old) e l = absurd (omega (arith, l))
back_whole count (x ∷ new) [] e l = absurd (omega (arith, l))
back_whole zero (x ∷ new) (y ∷ old) e l = absurd (omega (arith, e))
back_whole (suc count) (x ∷ new) (y ∷ old) e l = ap (λ t. x ∷ t) (back_whole count new old (omega (arith, e)) (omega (arith, l)))
