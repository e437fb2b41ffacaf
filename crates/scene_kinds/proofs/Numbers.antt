-- The one text of a number, and where the text of an entity is cut.
use Rattle.std.proofs.Common.{◌≡◌, ◌≢◌, true, false, subst, ℕ, zero, suc, ◌<◌, ◌^◌, List, [], ◌∷◌, length, get_or, Result, Ok, Err, arith, refl, sym, lit<}
use Rattle.std.specs.Prelude.{MatchResult, is_ok}
use Rattle.std.specs.Str.{IsUtf8}
use Rattle.std.proofs.lemmas.Str.{IsUtf8-from_ascii, IsAscii-append}
use Rattle.std.proofs.lemmas.Fmt.{IsAscii-decimal}
use Rattle.std.specs.Prelude.{decimal}
use Rattle.std.specs.Str.Parse.{AllDigits, digits_value}
use Rattle.std.proofs.lemmas.Str.Parse.{IsNumeralModel, numerals_by_value, tells_digits, not_in_digits}
use Rattle.std.proofs.lemmas.Fmt.{decimal_digit, first_decimal, decimal_nonempty, digits_decimal}
use Rattle.scene_kinds.specs.Number.{BeginsPlainly}
use Rattle.scene_kinds.specs.Entity.{entity_text}

-- numerals are digits with their value
pub own : IsNumeralModel (AllDigits 10) (digits_value 10)
own = numerals_by_value (AllDigits 10) tells_digits

-- the text of a number begins plainly
begins : (n : ℕ) → n < 2 ^ 64 → BeginsPlainly (decimal n)
begins zero small = rw (decimal_digit 0 (omega arith)) (omega arith, omega arith, λ e. refl)
begins (suc n) small =
    let high = first_decimal (suc n) (omega arith) small in
    (decimal_nonempty (suc n) small, (λ e. omega (arith, high)), λ e. absurd (omega (arith, high)))

-- the text of a number begins plainly
pub begins_decimal : (bs : List ℕ) (n : ℕ) → n < 2 ^ 64 → bs ≡ decimal n → BeginsPlainly bs
begins_decimal bs n small e = rw e (begins n small)

-- a decimal number holds no `v`
pub no_v : (n : ℕ) → n < 2 ^ 64 → (i : ℕ) → i < length (decimal n) → get_or (decimal n) i 0 ≢ 118
no_v n small = not_in_digits own (decimal n) 118 (digits_decimal own n small) (λ h. omega (arith, h.1))

-- the letter v is ASCII
v_is_ascii : (i : ℕ) → get_or (118 ∷ []) i 0 < 128
v_is_ascii zero = lit< tt
v_is_ascii (suc i) = lit< tt

-- the text of an entity is ASCII, so it is UTF-8
pub entity_is_text : (bs : List ℕ) (i g : ℕ) → i < 2 ^ 32 → g < 2 ^ 32 → bs ≡ entity_text i g → IsUtf8 bs
entity_is_text bs i g hi hg e =
    subst IsUtf8 (sym e) (IsUtf8-from_ascii (entity_text i g) (IsAscii-append (decimal i) (118 ∷ decimal g) (IsAscii-decimal i (omega arith)) (IsAscii-append (118 ∷ []) (decimal g) v_is_ascii (IsAscii-decimal g (omega arith)))))

-- bytes that were refused as a text are none
pub not_text_is_no_entity : {T E : Type 0} (P : T → Type 0) (Q : E → Type 0) (r : Result T E) (bs : List ℕ) → false ≡ is_ok r → MatchResult r P (λ e. ¬ (IsUtf8 bs) × Q e) → IsUtf8 bs → ⊥
not_text_is_no_entity P Q (Ok s) bs e h utf8 = let k : false ≡ true = e in cc
not_text_is_no_entity P Q (Err x) bs e h utf8 = h.0 utf8
