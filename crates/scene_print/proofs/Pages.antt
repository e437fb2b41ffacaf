-- A part of a list that is made of lists.
use Rattle.std.proofs.Common.{◌≡◌, ◌⊎◌, ◌+◌, ◌-◌, ◌<◌, ◌≤◌, ◌∙◌, ℕ, zero, suc, List, [], ◌∷◌, ◌++◌, Some, ap, arith, drop, inl, inr, length, min, refl, slice_get, sym, take}
use Rattle.std.proofs.Math.Nat.{min-le_left, min-le_right}
use Rattle.std.specs.List.{flat_map}
use Rattle.scene_print.specs.JsonAsked.{page}
use native.Mathlib.Numerals.{unary_clauses}

-- an element of a list before its end stands in a part that ends there, with others behind it
pub within_part : {A : Type 0} (xs more : List A) (at to : ℕ) (x : A) → at < to → slice_get xs at ≡ Some x → slice_get (take to xs ++ more) at ≡ Some x
within_part [] more at to x low there = absurd (cc there)
within_part (y ∷ ys) more at zero x low there = absurd (omega arith)
within_part (y ∷ ys) more zero (suc to) x low there = there
within_part (y ∷ ys) more (suc at) (suc to) x low there = within_part ys more at to x (omega arith) there

either_by : {P Q R S : Type 0} → (P → R) → (Q → S) → P ⊎ Q → R ⊎ S
either_by f g (inl p) = inl (f p)
either_by f g (inr q) = inr (g q)

-- the less of two numbers is one of them
min_is : (a b : ℕ) → (min a b ≡ a) ⊎ (min a b ≡ b)
min_is zero b = inl (simp unary_clauses refl)
min_is (suc a) zero = inr (simp unary_clauses refl)
min_is (suc a) (suc b) = either_by (λ h. simp unary_clauses (ap suc h)) (λ h. simp unary_clauses (ap suc h)) (min_is a b)

-- of a page of two lists, so many are passed over and so many listed of the first, and the others of the second
page_by : {A : Type 0} (xs ys : List A) (passed left first end passed_on left_on : ℕ)
    → passed ≡ first + passed_on → first ≤ end → left + first ≡ end + left_on → end ≤ length xs
    → (passed_on ≡ 0) ⊎ (first ≡ length xs) → (left_on ≡ 0) ⊎ (end ≡ length xs)
    → page passed left (xs ++ ys) ≡ drop first (take end xs ++ page passed_on left_on ys)
page_by [] ys passed left first end passed_on left_on p q r s over listed =
    let none : first ≡ 0 = omega (arith, q, s) in
    let last : end ≡ 0 = omega (arith, s) in
    let same_passed : passed_on ≡ passed = omega (arith, p, none) in
    let same_left : left_on ≡ left = omega (arith, r, none, last) in
    sym (λ i. drop (none i) (take (last i) [] ++ page (same_passed i) (same_left i) ys))
page_by (x ∷ xs) ys passed left zero zero passed_on left_on p q r s over listed =
    let done : left ≡ 0 = none_left listed in
    let done_on : left_on ≡ 0 = omega (arith, r, done) in
    (λ i. take (done i) (drop passed (x ∷ (xs ++ ys)))) ∙ sym (λ i. take (done_on i) (drop passed_on ys))
  where
    none_left : (left_on ≡ 0) ⊎ (zero ≡ length (x ∷ xs)) → left ≡ 0
    none_left (inl h) = omega (arith, r, h)
    none_left (inr h) = absurd (omega (arith, h))
page_by (x ∷ xs) ys passed left zero (suc end) passed_on left_on p q r s over listed =
    let on : passed_on ≡ 0 = none_passed over in
    let start : passed ≡ 0 = omega (arith, p, on) in
    let more : left ≡ suc (end + left_on) = omega (arith, r) in
    (λ i. take (more i) (drop (start i) (x ∷ (xs ++ ys))))
    ∙ ap (λ zs. x ∷ zs) (page_by xs ys 0 (end + left_on) 0 end passed_on left_on (omega (arith, on)) (omega arith) (omega arith) (omega (arith, s)) (inl on)
    (either_by (λ h. h) (λ h. omega (arith, h)) listed))
  where
    none_passed : (passed_on ≡ 0) ⊎ (zero ≡ length (x ∷ xs)) → passed_on ≡ 0
    none_passed (inl h) = h
    none_passed (inr h) = absurd (omega (arith, h))
page_by (x ∷ xs) ys passed left (suc first) zero passed_on left_on p q r s over listed = absurd (omega (arith, q))
page_by (x ∷ xs) ys passed left (suc first) (suc end) passed_on left_on p q r s over listed =
    let start : passed ≡ suc (first + passed_on) = omega (arith, p) in
    (λ i. take left (drop (start i) (x ∷ (xs ++ ys))))
    ∙ page_by xs ys (first + passed_on) left first end passed_on left_on refl (omega (arith, q)) (omega (arith, r)) (omega (arith, s))
    (either_by (λ h. h) (λ h. omega (arith, h)) over) (either_by (λ h. h) (λ h. omega (arith, h)) listed)

-- what is cut off a number by another
cut : (a b c : ℕ) → c ≡ min a b → (a ≡ c + (a - c)) × ((c ≤ b) × ((a - c ≡ 0) ⊎ (c ≡ b)))
cut a b c is = by_case (min_is a b)
  where
    below : c ≤ a
    below = omega (arith, is, min-le_left a b)

    within : c ≤ b
    within = omega (arith, is, min-le_right a b)

    by_case : (min a b ≡ a) ⊎ (min a b ≡ b) → (a ≡ c + (a - c)) × ((c ≤ b) × ((a - c ≡ 0) ⊎ (c ≡ b)))
    by_case (inl h) = (omega (arith, below), (within, inl (omega (arith, is, h))))
    by_case (inr h) = (omega (arith, below), (within, inr (is ∙ h)))

-- the same where the first list is one of some, and the others stand behind it
pub page_on : {T A : Type 0} (rows : T → List A) (ts : List T) (t : T) (more : List T) (passed left count first rest listed : ℕ) → ts ≡ t ∷ more
    → count ≡ length (rows t) → first ≡ min passed count → rest ≡ min left (count - first) → listed ≡ first + rest
    → page passed left (flat_map rows ts) ≡ drop first (take listed (rows t) ++ page (passed - first) (left - rest) (flat_map rows more))
page_on rows ts t more passed left count first rest listed next many is_first is_rest is_listed =
    let over = cut passed count first is_first in
    let part = cut left (count - first) rest is_rest in
    ap (λ us. page passed left (flat_map rows us)) next
    ∙ page_by (rows t) (flat_map rows more) passed left first listed (passed - first) (left - rest)
    over.0 (omega (arith, is_listed)) (omega (arith, is_listed, part.0)) (omega (arith, is_listed, many, over.1.0, part.1.0))
    (either_by (λ h. h) (λ h. h ∙ many) over.1.1) (either_by (λ h. h) (λ h. omega (arith, is_listed, h, over.1.0, many)) part.1.1)
