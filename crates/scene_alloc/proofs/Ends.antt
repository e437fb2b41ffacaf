-- The last of a list and its front, against a push.
use Rattle.std.proofs.Common.{◌≡◌, ℕ, ◌+◌, ◌-◌, ◌<◌, false, nat_eq, List, [], ◌∷◌, ◌++◌, length, take, get_or, Some, None, refl, sym, ap, ◌∙◌, arith}
use Rattle.std.specs.List.{list_any, IsDistinct}
use Rattle.std.specs.Cmp.{nat_eq_equiv}
use Rattle.std.proofs.lemmas.Grind.{common_steps}
use Rattle.std.proofs.lemmas.List.{get_or_append_left}
use Rattle.std.proofs.lemmas.List.Folds.{list_any_none}
use Rattle.std.proofs.Math.Seq.{get_or-append_seam}
use Rattle.std.proofs.lemmas.Map.Keys.{apart_from_distinct, IsDistinct-from_apart}
use Rattle.scene_alloc.specs.Ends.{last, front}

pub last-push : {X : Type 0} (xs : List X) (x : X) → last (xs ++ x ∷ []) ≡ Some x
last-push [] x = refl
last-push (y ∷ []) x = refl
last-push (y ∷ z ∷ zs) x = last-push (z ∷ zs) x

pub front-push : {X : Type 0} (xs : List X) (x : X) → front (xs ++ x ∷ []) ≡ xs
front-push [] x = refl
front-push (y ∷ []) x = refl
front-push (y ∷ z ∷ zs) x = ap (λ t. y ∷ t) (front-push (z ∷ zs) x)

-- the front, and then the last, is the list
pub push-last : {X : Type 0} (xs : List X) (x : X) → last xs ≡ Some x → front xs ++ x ∷ [] ≡ xs
push-last [] x h = cc
push-last (y ∷ []) x h = cc
push-last (y ∷ z ∷ zs) x h = ap (λ t. y ∷ t) (push-last (z ∷ zs) x h)

-- a list without a last is empty
pub last-None : {X : Type 0} (xs : List X) → last xs ≡ None → xs ≡ []
last-None [] h = refl
last-None (x ∷ []) h = cc
last-None (x ∷ y ∷ ys) h = let e : y ∷ ys ≡ [] = last-None (y ∷ ys) h in cc

-- what stands before the last, by length
front_taken : (x : ℕ) (xs : List ℕ) → take (length xs) (x ∷ xs) ≡ front (x ∷ xs)
front_taken x [] = refl
front_taken x (y ∷ ys) = ap (λ t. x ∷ t) (front_taken y ys)

pub take-front : (xs : List ℕ) (n : ℕ) → n ≡ length xs → take (n - 1) xs ≡ front xs
take-front [] n e = rw e refl
take-front (x ∷ xs) n e = let m : n - 1 ≡ length xs = omega (arith, e) in rw m (front_taken x xs)

-- a number that stands last in a list of distinct numbers stands nowhere else there
pub distinct_before : (xs : List ℕ) (x : ℕ) → IsDistinct nat_eq (xs ++ x ∷ []) → IsDistinct nat_eq xs × (list_any (nat_eq x) xs ≡ false)
distinct_before xs x h = (
  IsDistinct-from_apart nat_eq xs (λ i j d a b. apart i j d a b),
  list_any_none (nat_eq x) xs (λ k d l. nat_eq_equiv.symm x (get_or xs k d) ∙ other k d l),
)
  where
    longer : length (xs ++ x ∷ []) ≡ length xs + 1
    longer = grind (arith, common_steps)

    apart : (i j d : ℕ) → i < j → j < length xs → nat_eq (get_or xs i d) (get_or xs j d) ≡ false
    apart i j d a b =
        rw (sym (get_or_append_left xs (x ∷ []) d i (omega arith)), sym (get_or_append_left xs (x ∷ []) d j b)) (apart_from_distinct nat_eq (xs ++ x ∷ []) i j d h a (omega (arith, longer)))

    other : (k d : ℕ) → k < length xs → nat_eq (get_or xs k d) x ≡ false
    other k d l =
        let g = apart_from_distinct nat_eq (xs ++ x ∷ []) k (length xs) d h l (omega (arith, longer)) in
        rw (get_or_append_left xs (x ∷ []) d k l, get_or-append_seam xs x [] d) at g
