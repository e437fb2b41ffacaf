-- Which bytes are a number of 32 bits, by the tests that a reader makes.
use Rattle.std.proofs.Common.{◌≡◌, ℕ, ◌<◌, ◌≤◌, ◌^◌, List, length, sym, subst, ◌∙◌, ap, arith, Some, None}
use Rattle.std.specs.Prelude.{decimal}
use Rattle.std.specs.Str.Parse.{IsNumeral, digits_value}
use Rattle.std.proofs.lemmas.Fmt.{length-decimal-le, decimal_is_IsNumeral, decimal-digits_value}
use Rattle.scene_kinds.specs.EntityReading.{count_in}
use Rattle.scene_kinds.proofs.Numbers.{own, begins_decimal}
use Rattle.scene_kinds.proofs.EntityReading.{count_is, count_in-text}
use Rattle.scene_kinds.specs.Number.{BeginsPlainly}

-- what is the text of no number is none
no_text : (bs : List ℕ) → ((n : ℕ) → n < 2 ^ 32 → bs ≡ decimal n → ⊥) → None ≡ count_in bs
no_text bs h = count_is bs None tt tt (λ n small e. absurd (h n small e))

-- a number of 32 bits has at most ten digits
pub too_long : (bs : List ℕ) → 10 < length bs → None ≡ count_in bs
too_long bs long = no_text bs (λ n small e.
    let few = length-decimal-le 10 n (omega arith) (omega arith) (omega arith) in
    let same = ap length e in
    omega (arith, few, same))

-- and begins plainly
pub begins_otherwise : (bs : List ℕ) → ¬ (BeginsPlainly bs) → None ≡ count_in bs
begins_otherwise bs h = no_text bs (λ n small e. h (begins_decimal bs n (omega arith) e))

-- and is all digits
pub no_numeral : (bs : List ℕ) → (IsNumeral 10 bs → ⊥) → None ≡ count_in bs
no_numeral bs h = no_text bs (λ n small e. let numeral = decimal_is_IsNumeral n (omega arith) in h (subst (IsNumeral 10) (sym e) numeral.0))

-- and fits
pub too_large : (bs : List ℕ) (m : ℕ) → m ≡ digits_value 10 bs → 2 ^ 32 ≤ m → None ≡ count_in bs
too_large bs m value large = no_text bs (λ n small e.
    let numeral = decimal_is_IsNumeral n (omega arith) in
    let same = ap (digits_value 10) e in
    omega (arith, numeral.1, same, value))

-- what passes all these tests is the number that its digits write
pub count_found : (bs : List ℕ) (m : ℕ) → BeginsPlainly bs → IsNumeral 10 bs → m ≡ digits_value 10 bs → m < 2 ^ 32 → Some m ≡ count_in bs
count_found bs m begins numeral value small =
    let text : decimal (digits_value 10 bs) ≡ bs = decimal-digits_value own bs numeral.1 numeral.0 begins.2 (omega (arith, value)) in
    sym (count_in-text bs m small (sym text ∙ ap decimal (sym value)))

pub ruleset count_laws = (too_long, begins_otherwise, no_numeral, too_large, count_found)
