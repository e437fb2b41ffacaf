-- A whole number, and its one text.
use Rattle.std.proofs.Common.{◌≡◌, ◌≢◌, ℕ, zero, suc, ◌<◌, ◌^◌, ℤ, pos, negsuc, neg_ℤ, Bool, true, false, cond, List, [], ◌∷◌, get_or, refl, ap, sym, subst, ◌∙◌, arith, Result, Ok, Err, Some, None, w64}
use Rattle.std.specs.Prelude.{IfOk, decimal, ◌==◌, ◌&&◌, FitsSigned}
use Rattle.std.specs.Result.{result_ok}
use Rattle.std.specs.Fmt.{signed_decimal}
use Rattle.std.specs.Str.{bytes_eq}
use Rattle.std.specs.Str.Parse.{IsNumeral, digits_value, signed_digits_value, ParsesSigned}
use Rattle.std.proofs.lemmas.Bool.Decides.{nat_tests}
use Rattle.std.proofs.lemmas.Slice.Eq.{bytes_eq-Decides}
use Rattle.std.proofs.lemmas.Str.Parse.{parse_signed_minus, parse_signed_plain}
use Rattle.std.proofs.lemmas.Fmt.{decimal-digits_value, decimal_digit, first_decimal, parse-signed_decimal}
use Rattle.scene_kinds.proofs.Numbers.{own}
use Rattle.scene_kinds.proofs.EntityReading.{both}
use Rattle.scene_script.specs.Begins.{BeginsWhole}
use Rattle.scene_script.specs.Numbers.{is_i64, if_whole, number_in}

-- what holds only where a test passes isn't there where it fails
not_there : {X : Type 0} (b : Bool) (x : X) → (b ≡ true → ⊥) → cond b (Some x) None ≡ None
not_there true x h = absurd (h refl)
not_there false x h = refl

-- a number that fits passes the test
is_i64-fits : (z : ℤ) → FitsSigned w64 z → is_i64 z ≡ true
is_i64-fits (pos n) h = let small : n < 2 ^ 63 = h.sfits in grind (arith, nat_tests)
is_i64-fits (negsuc n) h = let small : n < 2 ^ 63 = h.sfits in grind (arith, nat_tests)

-- a number that passes the test fits
fits-is_i64 : (z : ℤ) → is_i64 z ≡ true → FitsSigned w64 z
fits-is_i64 (pos n) h = let small : n < 2 ^ 63 = grind (arith, nat_tests) in record { sfits = small }
fits-is_i64 (negsuc n) h = let small : n < 2 ^ 63 = grind (arith, nat_tests) in record { sfits = small }

-- bytes that print a whole number are that number
if_whole-yes : (bytes : List ℕ) (z : ℤ) → bytes ≡ signed_decimal z → FitsSigned w64 z → if_whole bytes z ≡ Some z
if_whole-yes bytes z e small =
    let same : bytes_eq bytes (signed_decimal z) ≡ true = (bytes_eq-Decides bytes (signed_decimal z)).1 e in
    rw (same, is_i64-fits z small) refl

-- what passes the test prints so and fits
if_whole-was : (bytes : List ℕ) (z : ℤ) → (bytes_eq bytes (signed_decimal z) && is_i64 z) ≡ true → (bytes ≡ signed_decimal z) × FitsSigned w64 z
if_whole-was bytes z e =
    let p = both (bytes_eq bytes (signed_decimal z)) (is_i64 z) e in
    ((bytes_eq-Decides bytes (signed_decimal z)).0 p.0, fits-is_i64 z p.1)

-- digits that don't begin with a zero (48) are, after a -, the text of the number below zero
minus_text : (n : ℕ) (ds : List ℕ) → decimal n ≡ ds → get_or ds 0 0 ≢ 48 → 45 ∷ ds ≡ signed_decimal (neg_ℤ (pos n))
minus_text zero ds e h = absurd (h (ap (λ l. get_or l 0 0) (sym e ∙ decimal_digit 0 (omega arith))))
minus_text (suc n) ds e h = ap (λ l. 45 ∷ l) (sym e)

-- after a -
found_minus : (E : Type 0) (b : ℕ) (ds : List ℕ) (z : ℤ) → ParsesSigned {E = E} w64 10 (b ∷ ds) (Ok z) → BeginsWhole (b ∷ ds) → b ≡ 45 → b ∷ ds ≡ signed_decimal z
found_minus E b ds z h begins minus =
    let q = parse_signed_minus own {E = E} w64 (b ∷ ds) (Ok z) h minus in
    let first : get_or ds 0 0 ≢ 48 = begins.no_minus_zero minus in
    let small : digits_value 10 ds < 2 ^ 64 = omega (arith, q.0.2) in
    let text : decimal (digits_value 10 ds) ≡ ds = decimal-digits_value own ds q.0.0 q.0.1 (λ e. absurd (first e)) small in
    ap (λ c. c ∷ ds) minus ∙ (minus_text (digits_value 10 ds) ds text first ∙ ap signed_decimal (sym q.1))

-- without a sign
found_plain : (E : Type 0) (bs : List ℕ) (z : ℤ) → ParsesSigned {E = E} w64 10 bs (Ok z) → BeginsWhole bs → get_or bs 0 0 ≢ 45 → bs ≡ signed_decimal z
found_plain E bs z h begins minus =
    let q = parse_signed_plain own {E = E} w64 bs (Ok z) h begins.no_plus minus in
    let small : digits_value 10 bs < 2 ^ 64 = omega (arith, q.0.2) in
    sym (decimal-digits_value own bs q.0.0 q.0.1 begins.lone_zero small) ∙ ap signed_decimal (sym q.1)

-- a number that is read from bytes that begin so has that text
pub whole_found : {E : Type 0} (bs : List ℕ) (r : Result ℤ E) → ParsesSigned w64 10 bs r → BeginsWhole bs → IfOk r (λ z. bs ≡ signed_decimal z)
whole_found {E} bs (Err e) h begins = tt
whole_found {E} [] (Ok z) h begins = found_plain E [] z h begins (λ e. omega (arith, e))
whole_found {E} (b ∷ ds) (Ok z) h begins =
    elim (b == 45) as (λ t. (b == 45) ≡ t → b ∷ ds ≡ signed_decimal z) [
      | true ↦ λ t. found_minus E b ds z h begins (grind (arith, nat_tests, t))
      | false ↦ λ t. found_plain E (b ∷ ds) z h begins (λ e. let k : (b == 45) ≡ true = grind (arith, nat_tests, e) in absurd (let l : true ≡ false = sym k ∙ t in cc))
    ] refl

-- the text of a number is read as that number
pub whole_only : {E : Type 0} (bs : List ℕ) (r : Result ℤ E) (z : ℤ) → FitsSigned w64 z → bs ≡ signed_decimal z → ParsesSigned w64 10 bs r → r ≡ Ok z
whole_only bs r z fits e h = parse-signed_decimal w64 z bs r fits fits.sfits e h

-- how the text of each number begins
begins : (z : ℤ) → FitsSigned w64 z → BeginsWhole (signed_decimal z)
begins (pos zero) fits = rw (decimal_digit 0 (omega arith)) (record { no_plus = λ e. omega (arith, e); lone_zero = λ e. refl; no_minus_zero = λ e. absurd (omega (arith, e)) })
begins (pos (suc n)) fits =
    let small : suc n < 2 ^ 63 = fits.sfits in
    let high = first_decimal (suc n) (omega arith) (omega arith) in
    record { no_plus = λ e. omega (arith, high, e); lone_zero = λ e. absurd (omega (arith, high, e)); no_minus_zero = λ e. absurd (omega (arith, high, e)) }
begins (negsuc n) fits =
    let small : n < 2 ^ 63 = fits.sfits in
    let high : 48 < get_or (decimal (suc n)) 0 0 = first_decimal (suc n) (omega arith) (omega arith) in
    record { no_plus = λ e. omega (arith, e); lone_zero = λ e. absurd (omega (arith, e)); no_minus_zero = λ _ e. omega (arith, high, e) }

-- the text of a number begins so
pub begins_text : (bs : List ℕ) (z : ℤ) → FitsSigned w64 z → bs ≡ signed_decimal z → BeginsWhole bs
begins_text bs z fits e = subst BeginsWhole (sym e) (begins z fits)

-- what is read from bytes that begin so is `number_in`
pub number_of_parse : (E : Type 0) (bs : List ℕ) (z : ℤ) → ParsesSigned {E = E} w64 10 bs (Ok z) → BeginsWhole bs → number_in bs ≡ Some z
number_of_parse E bs z h b =
    ap (if_whole bs) (sym h.1) ∙ if_whole-yes bs z (whole_found {E = E} bs (Ok z) h b) (subst (λ (y : ℤ). FitsSigned w64 y) (sym h.1) h.0.1)

-- what isn't read isn't there
pub number_of_error : {E : Type 0} (bs : List ℕ) (e : E) → ParsesSigned w64 10 bs (Err e) → number_in bs ≡ None
number_of_error {E} bs e h =
    not_there (bytes_eq bs (signed_decimal (signed_digits_value 10 bs)) && is_i64 (signed_digits_value 10 bs)) (signed_digits_value 10 bs)
    (λ t. let was = if_whole-was bs (signed_digits_value 10 bs) t in
    let k : Err e ≡ Ok (signed_digits_value 10 bs) = whole_only {E = E} bs (Err e) (signed_digits_value 10 bs) was.1 was.0 h in cc)

-- what is read is `number_in`
pub whole_is : {E : Type 0} (bs : List ℕ) (r : Result ℤ E) → ParsesSigned w64 10 bs r → BeginsWhole bs → result_ok r ≡ number_in bs
whole_is {E} bs (Ok z) h b = sym (number_of_parse E bs z h b)
whole_is {E} bs (Err e) h b = sym (number_of_error {E = E} bs e h)

-- bytes that begin otherwise are no number
pub number_elsewhere : (bs : List ℕ) → ¬ (BeginsWhole bs) → number_in bs ≡ None
number_elsewhere bs h =
    not_there (bytes_eq bs (signed_decimal (signed_digits_value 10 bs)) && is_i64 (signed_digits_value 10 bs)) (signed_digits_value 10 bs)
    (λ t. let was = if_whole-was bs (signed_digits_value 10 bs) t in h (begins_text bs (signed_digits_value 10 bs) was.1 was.0))

-- at most 18 digits fit, also below zero
fits_plain : (n : ℕ) → n < 10 ^ 18 → FitsSigned w64 (pos n)
fits_plain n h = let small : n < 2 ^ 63 = omega arith in record { sfits = small }

fits_minus : (n : ℕ) → n < 10 ^ 18 → FitsSigned w64 (neg_ℤ (pos n))
fits_minus zero h = let small : 0 < 2 ^ 63 = omega arith in record { sfits = small }
fits_minus (suc n) h = let small : n < 2 ^ 63 = omega arith in record { sfits = small }

-- digits behind a - are parsed as their number below zero
pub minus_parsed : (E : Type 0) (bs ds : List ℕ) (n : ℕ) → bs ≡ 45 ∷ ds → IsNumeral 10 ds → n ≡ digits_value 10 ds → n < 10 ^ 18 → ParsesSigned {E = E} w64 10 bs (Ok (neg_ℤ (pos n)))
minus_parsed E bs ds n e digits value small =
    subst (λ (l : List ℕ). ParsesSigned {E = E} w64 10 l (Ok (neg_ℤ (pos n)))) (sym e)
    ((digits, subst (λ (k : ℕ). FitsSigned w64 (neg_ℤ (pos k))) value (fits_minus n small)), ap (λ k. neg_ℤ (pos k)) value)

-- what stands behind a - and is no numeral isn't parsed
pub minus_refused : {E : Type 0} (bs ds : List ℕ) (x : E) → bs ≡ 45 ∷ ds → (IsNumeral 10 ds → ⊥) → ParsesSigned w64 10 bs (Err x)
minus_refused {E} bs ds x e none = subst (λ (l : List ℕ). ParsesSigned {E = E} w64 10 l (Err x)) (sym e) (λ q. none q.0)

-- digits without a sign are parsed as their number
pub plain_parsed : (E : Type 0) (bs : List ℕ) (n : ℕ) → get_or bs 0 0 ≢ 45 → get_or bs 0 0 ≢ 43 → IsNumeral 10 bs → n ≡ digits_value 10 bs → n < 10 ^ 18
    → ParsesSigned {E = E} w64 10 bs (Ok (pos n))
plain_parsed E bs n minus plus digits value small =
    let no_minus : (get_or bs 0 0 == 45) ≡ false = grind (arith, nat_tests) in
    let no_plus : (get_or bs 0 0 == 43) ≡ false = grind (arith, nat_tests) in
    rw (no_minus, no_plus) ((digits, subst (λ (k : ℕ). FitsSigned w64 (pos k)) value (fits_plain n small)), ap pos value)

-- what has no sign and is no numeral isn't parsed
pub plain_refused : {E : Type 0} (bs : List ℕ) (x : E) → get_or bs 0 0 ≢ 45 → get_or bs 0 0 ≢ 43 → (IsNumeral 10 bs → ⊥) → ParsesSigned w64 10 bs (Err x)
plain_refused bs x minus plus none =
    let no_minus : (get_or bs 0 0 == 45) ≡ false = grind (arith, nat_tests) in
    let no_plus : (get_or bs 0 0 == 43) ≡ false = grind (arith, nat_tests) in
    rw (no_minus, no_plus) (λ q. none q.0)

pub ruleset short_laws = (minus_parsed, minus_refused, plain_parsed, plain_refused)

-- what the reader of whole numbers stands on
pub ruleset whole_laws = (whole_found, whole_only, number_elsewhere)
