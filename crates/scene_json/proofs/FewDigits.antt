-- The number that a few digits write, as a JSON number.
use Rattle.std.proofs.Common.{◌≡◌, ℕ, ◌<◌, ◌^◌, true, false, List, [], ◌∷◌, ◌++◌, length, get_or, Some, refl, sym, ap, ◌∙◌, arith, append-nil, lt-ltb, ne_eqb}
use Rattle.std.specs.Char.{digit_value}
use Rattle.std.specs.Str.Parse.{AllDigits, IsNumeral, digits_value}
use Rattle.fast_float.specs.Text.{Parts, digits_of, text_of, IsWellFormed}
use Rattle.fast_float.proofs.Writing.{scan-text_of}
use Rattle.serde_json.specs.Data.{unsigned}
use Rattle.serde_json.specs.Read.{is_integer, number_from, number_of}

no_minus : (ds rest : List ℕ) → AllDigits 10 ds → 0 < length ds → get_or (ds ++ rest) 0 0 ≡ 45 → ⊥
no_minus [] rest h some e = omega arith
no_minus (d ∷ ds) rest h some e = let digit : digit_value d < 10 = h.0 in let is : d ≡ 45 = e in grind arith

abbrev digits : List ℕ → Parts
digits ds = record { whole = ds; point = false; fraction = []; exponent_negative = false; exponent = []; len = length (ds ++ []) }

numeral_of : (ds : List ℕ) → AllDigits 10 ds → 0 < length ds → number_of ds ≡ number_from false (digits ds)
unfolding number_of
numeral_of ds all some =
    let formed : IsWellFormed (digits ds) = record { whole_digits = all; fraction_digits = tt; exponent_digits = tt; no_point = λ _. refl; no_exponent = λ _. refl; len_is = refl } in
    ap number_of (sym (append-nil ds))
    ∙ rw (ne_eqb (get_or (text_of (digits ds)) 0 0) 45 (no_minus ds [] all some)) (ap (number_from false) (scan-text_of (digits ds) formed))

pub few_say : (s t : List ℕ) (n : ℕ) → t ≡ s → IsNumeral 10 t → n ≡ digits_value 10 t → n < 10 ^ 18 → number_of s ≡ Some (unsigned n)
few_say s t n same numeral value small =
    let whole : is_integer (digits t) ≡ true = rw (lt-ltb _ _ numeral.0) in
    let is : digits_of (digits t) ≡ n = rw append-nil (sym value) in
    let fits : n < 2 ^ 64 = omega arith in
    ap number_of (sym same) ∙ numeral_of t numeral.1 numeral.0 ∙ rw (whole, is) (rw (lt-ltb _ _ fits))
