-- The number that digits write, a digit at a time.
use Rattle.std.proofs.Common.{◌≡◌, ℕ, ◌+◌, ◌*◌, ◌-◌, ◌<◌, ◌≤◌, ◌^◌, true, false, List, length, take, get_or, arith}
use Rattle.std.specs.Int.{is_in_range, IsInRange}
use Rattle.std.specs.Str.Parse.{AllDigits, IsNumeral, digits_value}
use Rattle.std.proofs.Math.Nat.{pow-le-pow_right}
use Rattle.std.proofs.lemmas.Bool.Decides.{nat_tests}
use Rattle.std.proofs.lemmas.List.{length-take-le}
use Rattle.std.proofs.lemmas.Int.Digits.{digits_value_more, digits_more, digits_value-lt}
use Rattle.std.proofs.lemmas.Str.{digit_value_digit}
use Rattle.std.proofs.lemmas.Str.Parse.{digit_at}

-- a byte that passes the test of digits is one
in_range : (b : ℕ) → is_in_range 48 57 b ≡ true → IsInRange 48 57 b
in_range b e = grind (arith, nat_tests)

-- the first digits with one more
pub more_digits : (bs : List ℕ) (i n : ℕ) → i < length bs → AllDigits 10 (take i bs) → n ≡ digits_value 10 (take i bs) → is_in_range 48 57 (get_or bs i 0) ≡ true
    → AllDigits 10 (take (i + 1) bs) × (n * 10 + (get_or bs i 0 - 48) ≡ digits_value 10 (take (i + 1) bs))
more_digits bs i n small digits value e =
    let range = in_range (get_or bs i 0) e in
    let digit = digit_value_digit (get_or bs i 0) range in
    let more = digits_value_more 10 bs i small in
    (digits_more 10 bs i small digits (omega (arith, digit, range.0, range.1)), omega (arith, digit, more, value, range.0))

-- at most 17 digits leave room for one more
pub digits_room : (bs : List ℕ) (i : ℕ) → i < length bs → length bs ≤ 18 → AllDigits 10 (take i bs) → digits_value 10 (take i bs) < 10 ^ 17
digits_room bs i small few digits =
    let long = length-take-le i bs (omega arith) in
    let below = digits_value-lt 10 (take i bs) digits in
    let short : length (take i bs) ≤ 17 = omega (arith, long) in
    let power = pow-le-pow_right {n = 10} (omega arith) short in
    omega (arith, below, power)

-- where a byte is no digit, there is no numeral
pub no_digit : (bs : List ℕ) (i : ℕ) → i < length bs → is_in_range 48 57 (get_or bs i 0) ≡ false → IsNumeral 10 bs → ⊥
no_digit bs i small e numeral =
    let range = digit_at bs i numeral.1 small in
    absurd (grind (arith, nat_tests, range.0, range.1))

-- at most 18 digits are a number below ten to the 18
pub digits_small : (bs : List ℕ) → length bs ≤ 18 → AllDigits 10 bs → digits_value 10 bs < 10 ^ 18
digits_small bs few digits =
    let below = digits_value-lt 10 bs digits in
    let power = pow-le-pow_right {n = 10} (omega arith) few in
    omega (arith, below, power)
