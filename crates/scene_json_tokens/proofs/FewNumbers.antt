-- The number that a few digits behind a minus write, as a JSON number, and what the numbers of few digits are taken as.
use Rattle.std.proofs.Common.{◌≡◌, ℕ, zero, suc, ◌<◌, ◌≤◌, ◌^◌, ℤ, pos, true, false, List, [], ◌∷◌, ◌++◌, length, IfSome, Option, Some, None, refl, sym, ap, subst, ◌∙◌, arith, append-nil, lt-ltb, nat_lt, w64, to_z, of_z, ◌-ℤ◌, FitsSigned, drop, get_or, neg_ℤ, take, take_all, ◌-◌}
use Rattle.std.proofs.lemmas.Int.{ints, to_z_pos, to_z-of_z}
use Rattle.std.proofs.lemmas.Bool.{le-leb}
use Rattle.std.specs.Str.Parse.{IsNumeral, digits_value}
use Rattle.fast_float.specs.Text.{Parts, IsWellFormed, digits_of, with_sign}
use Rattle.fast_float.proofs.Writing.{scan-text_of}
use Rattle.json.specs.Token.{Token}
use Rattle.serde_json.specs.Data.{number, unsigned, negative}
use Rattle.serde_json.specs.Find.{as_i64}
use Rattle.serde_json.specs.Read.{is_integer, number_from, number_of}
pub use Rattle.scene_json.proofs.FewDigits.{few_say}
use Rattle.scene_json_forms.specs.Reading.{◌>>=◌, below, field, if_good}
use Rattle.scene_json_forms.specs.Walk.{int_at, tick_at}
use Rattle.scene_json_tokens.specs.Taken.{Begins, IsInt, IsTaken}
use Rattle.scene_json_tokens.proofs.Grammar.{number_begins}

abbrev digits : List ℕ → Parts
digits ds = record { whole = ds; point = false; fraction = []; exponent_negative = false; exponent = []; len = length (ds ++ []) }

-- behind a minus
pub few_below : (s t : List ℕ) (n : ℕ) → s ≡ 45 ∷ t → IsNumeral 10 t → n ≡ digits_value 10 t → 0 < n → n < 10 ^ 18
    → number_of s ≡ Some (negative (with_sign true n))
unfolding number_of
few_below s t n same numeral value some small =
    let formed : IsWellFormed (digits t) = record { whole_digits = numeral.1; fraction_digits = tt; exponent_digits = tt; no_point = λ _. refl; no_exponent = λ _. refl; len_is = refl } in
    let whole : is_integer (digits t) ≡ true = rw (lt-ltb _ _ numeral.0) in
    let is : digits_of (digits t) ≡ n = rw append-nil (sym value) in
    let fits : n ≤ 2 ^ 63 = omega arith in
    ap number_of same ∙ ap (λ l. number_of (45 ∷ l)) (sym (append-nil t)) ∙ ap (number_from true) (scan-text_of (digits t) formed)
    ∙ rw (whole, is) (rw (lt-ltb _ _ some, le-leb _ _ fits))

whole_below : (n : ℕ) → n < 2 ^ 63 → as_i64 (unsigned n) ≡ Some (pos n)
whole_below n fits = rw (lt-ltb n (2 ^ 63) fits)

pub above_zero : (s : List ℕ) (n : ℕ) → IsNumeral 10 s → n ≡ digits_value 10 s → n < 10 ^ 18 → IsInt s (to_z w64 n)
above_zero s n numeral value small =
    let fits : n < 2 ^ 63 = omega arith in
    (unsigned n, few_say s s n refl numeral value small, whole_below n fits ∙ ap Some (sym (to_z_pos w64 n fits)))

negated : (n : ℕ) → 0 < n → n < 10 ^ 18 → with_sign true n ≡ to_z w64 (of_z w64 (pos 0 -ℤ to_z w64 n))
negated zero some small = absurd (omega (arith, some))
negated (suc n) some small =
    let half : suc n < 2 ^ 63 = omega (arith, small) in
    let fits : FitsSigned w64 (with_sign true (suc n)) = omega (arith, small) in
    let taken : neg_ℤ (pos (suc n)) ≡ pos 0 -ℤ pos (suc n) = omega (arith, ints) in
    let same : with_sign true (suc n) ≡ pos 0 -ℤ to_z w64 (suc n) = taken ∙ ap (λ z. pos 0 -ℤ z) (sym (to_z_pos w64 (suc n) half)) in
    same ∙ sym (to_z-of_z w64 (pos 0 -ℤ to_z w64 (suc n)) (subst (FitsSigned w64) same fits))

pub below_zero : (s t : List ℕ) (n : ℕ) → s ≡ 45 ∷ t → IsNumeral 10 t → n ≡ digits_value 10 t → 0 < n → n < 10 ^ 18
    → IsInt s (to_z w64 (of_z w64 (pos 0 -ℤ to_z w64 n)))
below_zero s t n same numeral value some small =
    (negative (with_sign true n), few_below s t n same numeral value some small, ap Some (negated n some small))

pub count_taken : (old new : List Token) (s : List ℕ) (n : ℕ) → old ≡ Token.number s ∷ new → number_of s ≡ Some (unsigned n) → IsTaken tick_at 0 old new n
count_taken old new s n e is = (
  number (unsigned n),
  subst (λ (l : List Token). Begins 0 l (number (unsigned n)) new) (sym e) (number_begins s (unsigned n) new is),
  λ path. refl,
)

pub int_taken : (old new : List Token) (s : List ℕ) (z : ℤ) → old ≡ Token.number s ∷ new → IsInt s z → IsTaken int_at 0 old new z
int_taken old new s z e is = (
  number is.0,
  subst (λ (l : List Token). Begins 0 l (number is.0) new) (sym e) (number_begins s is.0 new is.1),
  λ path. ap (field path) is.2,
)

-- a number below a bound
pub below_taken : (bound : ℕ) (old new : List Token) (n : ℕ) → n < bound → IsTaken tick_at 0 old new n → IsTaken (below bound) 0 old new n
below_taken bound old new n small h = (
  h.0,
  h.1,
  λ path. ap (λ r. r >>= λ m. if_good path (nat_lt m bound) m) (h.2 path) ∙ ap (λ t. if_good path t n) (lt-ltb n bound small),
)

-- what holds of an item leads to more
pub if_some : {A : Type 0} {P Q : A → Type 0} (o : Option A) → ((a : A) → P a → Q a) → IfSome o P → IfSome o Q
if_some None f h = tt
if_some (Some a) f h = f a h

-- a list that begins with a byte, and the rest of it
pub begins_with : (s : List ℕ) (b : ℕ) → 0 < length s → get_or s 0 0 ≡ b → s ≡ b ∷ take (length s - 1) (drop 1 s)
begins_with [] b some e = absurd (omega (arith, some))
begins_with (x ∷ xs) b some e =
    let rest : take (length (x ∷ xs) - 1) xs ≡ xs = take_all (length (x ∷ xs) - 1) xs (omega arith) in
    λ i. e i ∷ sym rest i
