-- What a numeral says as a number.
use Rattle.std.proofs.Common.{◌≡◌, ℕ, suc, zero, ◌-◌, ◌^◌, ◌<◌, ◌≤◌, ◌&&◌, ◌||◌, ◌==◌, ℤ, pos, Bool, true, false, cond, not, is_some, List, length, take, drop, slice_index, take_all, length-drop, nat_lt, nat_le, int_lt, SomeIff, FitsSigned, Option, Some, None, option_and_then, Float, refl, sym, ap, ◌∙◌, arith}
use Rattle.std.specs.Int.{w64}
use Rattle.std.specs.Float.{binary64, float_is_finite}
use Rattle.fast_float.specs.Text.{minus, scan, Parts, IsInteger, digits_of, nearest, with_sign}
use Rattle.serde_json.specs.Data.{Num, unsigned, negative, float}
use Rattle.serde_json.specs.Find.{as_u64, as_i64}
use Rattle.serde_json.specs.Read.{is_integer, float_of, number_from, number_of}
use Rattle.std.proofs.lemmas.Bool.{false≢true, and_parts, and_from, ltb-true, lt-ltb, leb-true, le-leb, eqb-true}

-- a float is no whole number
no_whole : {A : Type 0} (f : Num → Option A) → ((x : Float) → f (float x) ≡ None) → (sign : Bool) (p : Parts) → option_and_then f (float_of sign p) ≡ None
no_whole f none sign p =
    elim (float_is_finite (nearest binary64 sign p)) as (λ b. option_and_then f (cond b (Some (float (nearest binary64 sign p))) None) ≡ None) [
      | true ↦ none (nearest binary64 sign p)
      | false ↦ refl
    ]

-- ---- the test of whole numbers

no : (b : Bool) → not b ≡ true → b ≡ false
no true h = absurd (false≢true h)
no false h = refl

integer_is : (p : Parts) → is_integer p ≡ true → IsInteger p
integer_is p h =
    let outer = and_parts (nat_lt 0 (length p.whole) && not p.point) (length p.exponent == 0) h in
    let inner = and_parts (nat_lt 0 (length p.whole)) (not p.point) outer.0 in
    (ltb-true 0 (length p.whole) inner.0, no p.point inner.1, eqb-true (length p.exponent) 0 outer.1)

is_integer_of : (p : Parts) → IsInteger p → is_integer p ≡ true
is_integer_of p h =
    and_from (nat_lt 0 (length p.whole) && not p.point) (length p.exponent == 0)
    (and_from (nat_lt 0 (length p.whole)) (not p.point) (lt-ltb 0 (length p.whole) h.0) (ap not h.1)) (ap (λ n. n == 0) h.2)

-- ---- without a sign

u64_at : (p : Parts) (b : Bool) → (is_integer p && nat_lt (digits_of p) (2 ^ 64)) ≡ b → (r : Option ℕ)
    → SomeIff r (IsInteger p × (digits_of p < 2 ^ 64)) (digits_of p) → r ≡ option_and_then as_u64 (cond b (Some (unsigned (digits_of p))) (float_of false p))
u64_at p true e None h = let both = and_parts (is_integer p) (nat_lt (digits_of p) (2 ^ 64)) e in
    absurd (h (integer_is p both.0, ltb-true (digits_of p) (2 ^ 64) both.1))
u64_at p true e (Some x) h = ap Some h.1
u64_at p false e None h = sym (no_whole as_u64 (λ x. refl) false p)
u64_at p false e (Some x) h = absurd (false≢true (sym e ∙ and_from (is_integer p) (nat_lt (digits_of p) (2 ^ 64)) (is_integer_of p h.0.0)
    (lt-ltb (digits_of p) (2 ^ 64) h.0.1)))

pub u64_from : (p : Parts) (r : Option ℕ) → SomeIff r (IsInteger p × (digits_of p < 2 ^ 64)) (digits_of p)
    → r ≡ option_and_then as_u64 (number_from false p)
u64_from p r h = u64_at p (is_integer p && nat_lt (digits_of p) (2 ^ 64)) refl r h

-- of 64 bits with a sign, where there is none
pub i64_of_u64 : (p : Parts) → option_and_then as_i64 (number_from false p)
    ≡ option_and_then (λ n. cond (nat_lt n (2 ^ 63)) (Some (pos n)) None) (option_and_then as_u64 (number_from false p))
i64_of_u64 p =
    elim (is_integer p && nat_lt (digits_of p) (2 ^ 64)) as (λ b. option_and_then as_i64 (cond b (Some (unsigned (digits_of p))) (float_of false p))
    ≡ option_and_then (λ n. cond (nat_lt n (2 ^ 63)) (Some (pos n)) None) (option_and_then as_u64 (cond b (Some (unsigned (digits_of p))) (float_of false p)))) [
      | true ↦ refl
      | false ↦ no_whole as_i64 (λ x. refl) false p
          ∙ ap (option_and_then (λ n. cond (nat_lt n (2 ^ 63)) (Some (pos n)) None)) (sym (no_whole as_u64 (λ x. refl) false p))
    ]

-- ---- below zero

-- what is below zero of a number with a sign
abbrev pub below_zero : Option ℤ → Option ℤ
below_zero o = option_and_then (λ z. cond (int_lt z (pos 0)) (Some z) None) o

-- the test of what is kept as a negative number
abbrev is_negative : Parts → Bool
is_negative p = is_integer p && nat_lt 0 (digits_of p) && nat_le (digits_of p) (2 ^ 63)

fits_below : (n : ℕ) → FitsSigned w64 (with_sign true n) → 0 < n → n ≤ 2 ^ 63
fits_below zero f h = absurd (omega arith)
fits_below (suc n) f h = omega (arith, f)

below_fits : (n : ℕ) → n ≤ 2 ^ 63 → FitsSigned w64 (with_sign true n)
below_fits zero h = omega arith
below_fits (suc n) h = omega arith

is_below : (n : ℕ) → 0 < n → int_lt (with_sign true n) (pos 0) ≡ true
is_below zero h = absurd (omega arith)
is_below (suc n) h = refl

not_below : (n : ℕ) → int_lt (with_sign true n) (pos 0) ≡ true → 0 < n
not_below zero h = absurd (false≢true h)
not_below (suc n) h = omega arith

i64_at : (p : Parts) (b : Bool) → is_negative p ≡ b → (r : Option ℤ)
    → SomeIff r (IsInteger p × FitsSigned w64 (with_sign true (digits_of p))) (with_sign true (digits_of p))
    → below_zero r ≡ option_and_then as_i64 (cond b (Some (negative (with_sign true (digits_of p)))) (float_of true p))
i64_at p true e None h =
    let outer = and_parts (is_integer p && nat_lt 0 (digits_of p)) (nat_le (digits_of p) (2 ^ 63)) e in
    let inner = and_parts (is_integer p) (nat_lt 0 (digits_of p)) outer.0 in
    absurd (h (integer_is p inner.0, below_fits (digits_of p) (leb-true (digits_of p) (2 ^ 63) outer.1)))
i64_at p true e (Some z) h =
    let outer = and_parts (is_integer p && nat_lt 0 (digits_of p)) (nat_le (digits_of p) (2 ^ 63)) e in
    let inner = and_parts (is_integer p) (nat_lt 0 (digits_of p)) outer.0 in
    ap below_zero (ap Some h.1) ∙ ap (λ c. cond c (Some (with_sign true (digits_of p))) None)
    (is_below (digits_of p) (ltb-true 0 (digits_of p) inner.1))
i64_at p false e None h = sym (no_whole as_i64 (λ x. refl) true p)
i64_at p false e (Some z) h = ap below_zero (ap Some h.1) ∙ none_below (int_lt (with_sign true (digits_of p)) (pos 0)) refl
    ∙ sym (no_whole as_i64 (λ x. refl) true p)
  where
    none_below : (c : Bool) → int_lt (with_sign true (digits_of p)) (pos 0) ≡ c → cond c (Some (with_sign true (digits_of p))) None ≡ None
    none_below false f = refl
    none_below true f =
        let some : 0 < digits_of p = not_below (digits_of p) f in
        absurd (false≢true (sym e ∙ and_from (is_integer p && nat_lt 0 (digits_of p)) (nat_le (digits_of p) (2 ^ 63))
        (and_from (is_integer p) (nat_lt 0 (digits_of p)) (is_integer_of p h.0.0) (lt-ltb 0 (digits_of p) some))
        (le-leb (digits_of p) (2 ^ 63) (fits_below (digits_of p) h.0.1 some))))

pub i64_from : (p : Parts) (r : Option ℤ) → SomeIff r (IsInteger p × FitsSigned w64 (with_sign true (digits_of p))) (with_sign true (digits_of p))
    → below_zero r ≡ option_and_then as_i64 (number_from true p)
i64_from p r h = i64_at p (is_negative p) refl r h

pub no_u64 : (p : Parts) → option_and_then as_u64 (number_from true p) ≡ None
no_u64 p =
    elim (is_negative p) as (λ b. option_and_then as_u64 (cond b (Some (negative (with_sign true (digits_of p)))) (float_of true p)) ≡ None) [
      | true ↦ refl
      | false ↦ no_whole as_u64 (λ x. refl) true p
    ]

-- ---- in range

in_range : (sign : Bool) (p : Parts) → is_some (float_of sign p) ≡ float_is_finite (nearest binary64 sign p)
in_range sign p =
    elim (float_is_finite (nearest binary64 sign p)) as (λ b. is_some (cond b (Some (float (nearest binary64 sign p))) None) ≡ b) [ true ↦ refl | false ↦ refl ]

pub range_from : (p : Parts) → is_some (option_and_then as_u64 (number_from false p)) || float_is_finite (nearest binary64 false p)
    ≡ is_some (number_from false p)
range_from p =
    elim (is_integer p && nat_lt (digits_of p) (2 ^ 64)) as (λ b.
    is_some (option_and_then as_u64 (cond b (Some (unsigned (digits_of p))) (float_of false p))) || float_is_finite (nearest binary64 false p)
    ≡ is_some (cond b (Some (unsigned (digits_of p))) (float_of false p))) [
      | true ↦ refl
      | false ↦ ap (λ o. is_some o || float_is_finite (nearest binary64 false p)) (no_whole as_u64 (λ x. refl) false p) ∙ sym (in_range false p)
    ]

pub range_below : (p : Parts) → is_some (option_and_then as_i64 (number_from true p)) || float_is_finite (nearest binary64 true p)
    ≡ is_some (number_from true p)
range_below p =
    elim (is_negative p) as (λ b.
    is_some (option_and_then as_i64 (cond b (Some (negative (with_sign true (digits_of p)))) (float_of true p))) || float_is_finite (nearest binary64 true p)
    ≡ is_some (cond b (Some (negative (with_sign true (digits_of p)))) (float_of true p))) [
      | true ↦ refl
      | false ↦ ap (λ o. is_some o || float_is_finite (nearest binary64 true p)) (no_whole as_i64 (λ x. refl) true p) ∙ sym (in_range true p)
    ]

-- ---- the texts of numbers

pub of_minus : (s t : List ℕ) → t ≡ s → true ≡ (slice_index t 0 == minus) → number_of s ≡ number_from true (scan (drop 1 t))
unfolding number_of
of_minus s t e m = ap number_of (sym e) ∙ ap (λ b. cond b (number_from true (scan (drop 1 t))) (number_from false (scan t))) (sym m)

pub of_digits : (s t : List ℕ) → t ≡ s → false ≡ (slice_index t 0 == minus) → number_of s ≡ number_from false (scan t)
unfolding number_of
of_digits s t e m = ap number_of (sym e) ∙ ap (λ b. cond b (number_from true (scan (drop 1 t))) (number_from false (scan t))) (sym m)

pub u64_none : (s t : List ℕ) → t ≡ s → true ≡ (slice_index t 0 == minus) → None ≡ option_and_then as_u64 (number_of s)
u64_none s t e m = sym (ap (option_and_then as_u64) (of_minus s t e m) ∙ no_u64 (scan (drop 1 t)))

pub u64_by : (s t : List ℕ) (p : Parts) (r : Option ℕ) → t ≡ s → false ≡ (slice_index t 0 == minus) → p ≡ scan t
    → r ≡ option_and_then as_u64 (number_from false p) → r ≡ option_and_then as_u64 (number_of s)
u64_by s t p r e m q h = h ∙ ap (λ x. option_and_then as_u64 (number_from false x)) q ∙ ap (option_and_then as_u64) (sym (of_digits s t e m))

pub i64_below : (s t : List ℕ) (p : Parts) (r : Option ℤ) → t ≡ s → true ≡ (slice_index t 0 == minus) → p ≡ scan (drop 1 t)
    → r ≡ option_and_then as_i64 (number_from true p) → r ≡ option_and_then as_i64 (number_of s)
i64_below s t p r e m q h = h ∙ ap (λ x. option_and_then as_i64 (number_from true x)) q ∙ ap (option_and_then as_i64) (sym (of_minus s t e m))

-- a number without a sign that fits one bit less
abbrev pub with_sign_too : Option ℕ → Option ℤ
with_sign_too o = option_and_then (λ n. cond (nat_lt n (2 ^ 63)) (Some (pos n)) None) o

pub i64_by : (s t : List ℕ) (p : Parts) (r : Option ℕ) → t ≡ s → false ≡ (slice_index t 0 == minus) → p ≡ scan t
    → r ≡ option_and_then as_u64 (number_from false p) → with_sign_too r ≡ option_and_then as_i64 (number_of s)
i64_by s t p r e m q h =
    ap with_sign_too (h ∙ ap (λ x. option_and_then as_u64 (number_from false x)) q) ∙ sym (i64_of_u64 (scan t))
    ∙ ap (option_and_then as_i64) (sym (of_digits s t e m))

pub range_minus : (s t : List ℕ) (p : Parts) (r : Option ℤ) → t ≡ s → true ≡ (slice_index t 0 == minus) → p ≡ scan (drop 1 t)
    → r ≡ option_and_then as_i64 (number_from true p) → is_some r || float_is_finite (nearest binary64 true p) ≡ is_some (number_of s)
range_minus s t p r e m q h =
    ap (λ o. is_some o || float_is_finite (nearest binary64 true p)) h ∙ range_below p ∙ ap (λ x. is_some (number_from true x)) q
    ∙ ap is_some (sym (of_minus s t e m))

pub range_digits : (s t : List ℕ) (p : Parts) (r : Option ℕ) → t ≡ s → false ≡ (slice_index t 0 == minus) → p ≡ scan t
    → r ≡ option_and_then as_u64 (number_from false p) → is_some r || float_is_finite (nearest binary64 false p) ≡ is_some (number_of s)
range_digits s t p r e m q h =
    ap (λ o. is_some o || float_is_finite (nearest binary64 false p)) h ∙ range_from p ∙ ap (λ x. is_some (number_from false x)) q
    ∙ ap is_some (sym (of_digits s t e m))

-- what stands behind a sign
pub behind_sign : (t : List ℕ) (p : Parts) → p ≡ scan (take (length t - 1) (drop 1 t)) → p ≡ scan (drop 1 t)
behind_sign t p e = e ∙ ap scan (take_all (length t - 1) (drop 1 t) (omega (arith, length-drop 1 t)))

pub ruleset numbers = (u64_from)
