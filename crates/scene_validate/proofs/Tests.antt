-- What tests say that pass, of two tests, of each element of a list and of numbers in a row; and the way back.
use Rattle.std.proofs.Common.{◌≡◌, ℕ, zero, suc, ◌+◌, ◌<◌, Bool, true, false, not, ◌&&◌, List, [], ◌∷◌, ◌++◌, refl, ap, sym, subst, ◌∙◌, arith, Some, None}
use Rattle.std.specs.Prelude.{slice_get, ◌||◌}
use Rattle.std.specs.List.{list_all, list_any, range_with_len, AllByRecursion, IsDistinct}
use Rattle.std.proofs.lemmas.Bool.{or_right}
use Rattle.scene_validate.specs.Rules.{are_distinct}

-- two tests
pub and_is : (a b : Bool) → (a && b) ≡ true → (a ≡ true) × (b ≡ true)
and_is true b h = (refl, h)
and_is false b h = absurd (let k : false ≡ true = h in cc)

pub and_of : (a b : Bool) → a ≡ true → b ≡ true → (a && b) ≡ true
and_of a b h k = ap (λ x. x && b) h ∙ k

-- a test that is turned round
pub not_is : (b : Bool) → not b ≡ true → b ≡ false
not_is true h = absurd (let k : false ≡ true = h in cc)
not_is false h = refl

pub not_of : (b : Bool) → b ≡ false → not b ≡ true
not_of b h = ap not h

-- tests that pass together are equal
pub same_tests : (a b : Bool) → (a ≡ true → b ≡ true) → (b ≡ true → a ≡ true) → a ≡ b
same_tests true b f g = sym (f refl)
same_tests false true f g = g refl
same_tests false false f g = refl

module _ {X : Type 0} where
  -- a test of a whole list, and of each of its elements
  pub all_is : (t : X → Bool) (xs : List X) → list_all t xs ≡ true → AllByRecursion (λ x. t x ≡ true) xs
  all_is t [] h = tt
  all_is t (x ∷ xs) h = let k = and_is (t x) (list_all t xs) h in (k.0, all_is t xs k.1)

  pub all_of : (t : X → Bool) (xs : List X) → AllByRecursion (λ x. t x ≡ true) xs → list_all t xs ≡ true
  all_of t [] h = refl
  all_of t (x ∷ xs) h = and_of (t x) (list_all t xs) h.0 (all_of t xs h.1)

  -- a fact of each element, from another
  pub all_with : (P Q : X → Type 0) → ((x : X) → P x → Q x) → (xs : List X) → AllByRecursion P xs → AllByRecursion Q xs
  all_with P Q f [] h = tt
  all_with P Q f (x ∷ xs) h = (f x h.0, all_with P Q f xs h.1)

  -- of both parts of a list
  pub all_before : (P : X → Type 0) (xs ys : List X) → AllByRecursion P (xs ++ ys) → AllByRecursion P xs
  all_before P [] ys h = tt
  all_before P (x ∷ xs) ys h = (h.0, all_before P xs ys h.1)

  pub all_behind : (P : X → Type 0) (xs ys : List X) → AllByRecursion P (xs ++ ys) → AllByRecursion P ys
  all_behind P [] ys h = h
  all_behind P (x ∷ xs) ys h = all_behind P xs ys h.1

  pub all_append : (P : X → Type 0) (xs ys : List X) → AllByRecursion P xs → AllByRecursion P ys → AllByRecursion P (xs ++ ys)
  all_append P [] ys h k = k
  all_append P (x ∷ xs) ys h k = (h.0, all_append P xs ys h.1 k)

  -- of the element at a place
  pub at_place : (P : X → Type 0) (xs : List X) (i : ℕ) (x : X) → AllByRecursion P xs → slice_get xs i ≡ Some x → P x
  at_place P [] i x h e = absurd (let k : None ≡ Some x = e in cc)
  at_place P (y ∷ ys) zero x h e = let k : y ≡ x = (let g : Some y ≡ Some x = e in cc) in subst P k h.0
  at_place P (y ∷ ys) (suc i) x h e = at_place P ys i x h.1 e

  pub from_places : (P : X → Type 0) (xs : List X) → ((i : ℕ) (x : X) → slice_get xs i ≡ Some x → P x) → AllByRecursion P xs
  from_places P [] h = tt
  from_places P (x ∷ xs) h = (h zero x refl, from_places P xs (λ i y e. h (suc i) y e))

  -- an element that passes, and its place
  pub any_is : (t : X → Bool) (xs : List X) → list_any t xs ≡ true → (i : ℕ) × ((x : X) × ((slice_get xs i ≡ Some x) × (t x ≡ true)))
  any_is t [] h = absurd (let k : false ≡ true = h in cc)
  any_is t (x ∷ xs) h = elim (t x) as (λ b. t x ≡ b → (b || list_any t xs) ≡ true → (i : ℕ) × ((y : X) × ((slice_get (x ∷ xs) i ≡ Some y) × (t y ≡ true)))) [
    | true ↦ λ e k. (zero, (x, (refl, e)))
    | false ↦ λ e k. let r = any_is t xs k in (suc r.0, (r.1.0, r.1.1))
  ] refl h

  pub any_of : (t : X → Bool) (xs : List X) (i : ℕ) (x : X) → slice_get xs i ≡ Some x → t x ≡ true → list_any t xs ≡ true
  any_of t [] i x e h = absurd (let k : None ≡ Some x = e in cc)
  any_of t (y ∷ ys) zero x e h = let k : y ≡ x = (let g : Some y ≡ Some x = e in cc) in ap (λ b. b || list_any t ys) (ap t k ∙ h)
  any_of t (y ∷ ys) (suc i) x e h = or_right (t y) (list_any t ys) (any_of t ys i x e h)

  -- the test for a list whose elements differ
  apart_is : (same : X → X → Bool) (x : X) (xs : List X) → list_all (λ y. not (same x y)) xs ≡ true → AllByRecursion (λ y. same x y ≡ false) xs
  apart_is same x xs h = all_with (λ y. not (same x y) ≡ true) (λ y. same x y ≡ false) (λ y k. not_is (same x y) k) xs (all_is (λ y. not (same x y)) xs h)

  apart_of : (same : X → X → Bool) (x : X) (xs : List X) → AllByRecursion (λ y. same x y ≡ false) xs → list_all (λ y. not (same x y)) xs ≡ true
  apart_of same x xs h = all_of (λ y. not (same x y)) xs (all_with (λ y. same x y ≡ false) (λ y. not (same x y) ≡ true) (λ y k. not_of (same x y) k) xs h)

  pub distinct_is : (same : X → X → Bool) (xs : List X) → are_distinct same xs ≡ true → IsDistinct same xs
  unfolding IsDistinct
  distinct_is same [] h = tt
  distinct_is same (x ∷ xs) h = let k = and_is (list_all (λ y. not (same x y)) xs) (are_distinct same xs) h in (apart_is same x xs k.0, distinct_is same xs k.1)

  pub distinct_of : (same : X → X → Bool) (xs : List X) → IsDistinct same xs → are_distinct same xs ≡ true
  unfolding IsDistinct
  distinct_of same [] h = refl
  distinct_of same (x ∷ xs) h = and_of (list_all (λ y. not (same x y)) xs) (are_distinct same xs) (apart_of same x xs h.0) (distinct_of same xs h.1)

-- a test of numbers in a row
range_is : (t : ℕ → Bool) (n a i : ℕ) → list_all t (range_with_len a n) ≡ true → i < n → t (a + i) ≡ true
range_is t zero a i h l = absurd (omega arith)
range_is t (suc n) a zero h l = let k = and_is (t a) (list_all t (range_with_len (a + 1) n)) h in let e : a ≡ a + 0 = omega arith in subst (λ m. t m ≡ true) e k.0
range_is t (suc n) a (suc i) h l =
    let k = and_is (t a) (list_all t (range_with_len (a + 1) n)) h in
    let e : (a + 1) + i ≡ a + suc i = omega arith in subst (λ m. t m ≡ true) e (range_is t n (a + 1) i k.1 (omega arith))

pub below_is : (t : ℕ → Bool) (n i : ℕ) → list_all t (range_with_len 0 n) ≡ true → i < n → t i ≡ true
below_is t n i h l = let e : 0 + i ≡ i = omega arith in subst (λ m. t m ≡ true) e (range_is t n 0 i h l)

range_of : (t : ℕ → Bool) (n a : ℕ) → ((i : ℕ) → i < n → t (a + i) ≡ true) → list_all t (range_with_len a n) ≡ true
range_of t zero a h = refl
range_of t (suc n) a h =
    and_of (t a) (list_all t (range_with_len (a + 1) n)) (let e : a + 0 ≡ a = omega arith in subst (λ m. t m ≡ true) e (h 0 (omega arith)))
    (range_of t n (a + 1) (λ i l. let e : a + suc i ≡ (a + 1) + i = omega arith in subst (λ m. t m ≡ true) e (h (suc i) (omega arith))))

pub below_of : (t : ℕ → Bool) (n : ℕ) → ((i : ℕ) → i < n → t i ≡ true) → list_all t (range_with_len 0 n) ≡ true
below_of t n h = range_of t n 0 (λ i l. let e : i ≡ 0 + i = omega arith in subst (λ m. t m ≡ true) e (h i l))
