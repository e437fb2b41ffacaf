-- What the numbers of a command line are, as `parse` reads them.
use Rattle.std.proofs.Common.{◌≡◌, ◌∙◌, ◌<◌, ◌≤◌, ◌^◌, ◌&&◌, ℕ, true, Option, Some, None, Result, Ok, Err, List, [], ◌∷◌, length, inl, inr, refl, sym, ap, subst, arith, nat_lt, nat_le, if◌then◌else◌, lt-ltb, ltb-true, le-leb}
use Rattle.std.specs.List.{list_all}
use Rattle.std.specs.Char.{digit_value}
use Rattle.std.specs.Result.{result_unwrap_or}
use Rattle.std.specs.Str.Parse.{AllDigits, IsNumeral, ParsesUnsigned, digits_value, without_leading_plus}
use Rattle.std.proofs.lemmas.Bool.{and_parts, cases_Bool, leb-true}
use Rattle.clap.specs.Words.{Text}
use Rattle.scene_command_line.specs.Words.{is_number, number_to}

all_pass : (digits : List ℕ) → AllDigits 10 digits → list_all (λ d. nat_lt (digit_value d) 10) digits ≡ true
all_pass [] all = refl
all_pass (d ∷ ds) all = rw (lt-ltb (digit_value d) 10 all.0) (all_pass ds all.1)

all_are : (digits : List ℕ) → list_all (λ d. nat_lt (digit_value d) 10) digits ≡ true → AllDigits 10 digits
all_are [] pass = tt
all_are (d ∷ ds) pass =
    let parts = and_parts _ _ pass in
    (ltb-true _ _ parts.0, all_are ds parts.1)

is_numeral : (word : Text) → is_number word ≡ true → IsNumeral 10 (without_leading_plus word)
is_numeral word is =
    let parts = and_parts _ _ is in
    (ltb-true _ _ parts.0, all_are (without_leading_plus word) parts.1)

-- a number where it is 1 to `most`
abbrev in_range : ℕ → ℕ → Option ℕ
in_range most n = if nat_lt 0 n && nat_le n most then Some n else None

-- where k bits hold `most`, the number that a word is in them, or else 0, is in the range where the word is such a number
number_read : {E : Type 0} (k most : ℕ) (word : Text) (r : Result ℕ E) → most < 2 ^ k → ParsesUnsigned k 10 word r
    → in_range most (result_unwrap_or r 0) ≡ number_to most word
number_read k most word (Ok n) small parses =
    rw (lt-ltb 0 (length (without_leading_plus word)) parses.0.0.0, all_pass (without_leading_plus word) parses.0.0.1)
    (ap (in_range most) parses.1)
number_read k most word (Err e) small parses = elim (cases_Bool (is_number word)) [
  | inr other ↦ rw other refl
  | inl number ↦ elim (cases_Bool (nat_lt 0 value && nat_le value most)) [
    | inr over ↦ rw (number, over) refl
    | inl within ↦ absurd (parses (is_numeral word number, le_lt (leb-true value most (and_parts _ _ within).1)))
  ]
]
  where
    value : ℕ
    value = digits_value 10 (without_leading_plus word)

    le_lt : value ≤ most → value < 2 ^ k
    le_lt within = omega arith

-- a number that 64 bits hold is in the range up to the greatest of them, where it isn't 0
entry_range : (n : ℕ) → n < 2 ^ 64 → (if nat_lt 0 n then Some n else None) ≡ in_range 18446744073709551615 n
entry_range n small = elim (cases_Bool (nat_lt 0 n)) [
  | inl more ↦ rw (more, le-leb n 18446744073709551615 (omega (arith, small))) refl
  | inr none ↦ rw none refl
]

-- the number of workers that `u8` reads
pub workers_read : {E : Type 0} (word : Text) (r : Result ℕ E) → ParsesUnsigned 8 10 word r
    → in_range 16 (result_unwrap_or r 0) ≡ number_to 16 word
workers_read word r parses = number_read 8 16 word r (omega arith) parses

-- the depth that `u32` reads
pub depth_read : {E : Type 0} (word : Text) (r : Result ℕ E) → ParsesUnsigned 32 10 word r
    → in_range 1048576 (result_unwrap_or r 0) ≡ number_to 1048576 word
depth_read word r parses = number_read 32 1048576 word r (omega arith) parses

-- the number of an entry that `u64` reads
pub entry_read : {E : Type 0} (word : Text) (r : Result ℕ E) → ParsesUnsigned 64 10 word r
    → (if nat_lt 0 (result_unwrap_or r 0) then Some (result_unwrap_or r 0) else None)
    ≡ number_to 18446744073709551615 word
entry_read {E = E} word (Ok n) parses =
    entry_range n (subst (λ m. m < 2 ^ 64) (sym parses.1) parses.0.1)
    ∙ number_read {E = E} 64 18446744073709551615 word (Ok n) (omega arith) parses
entry_read {E = E} word (Err e) parses = number_read {E = E} 64 18446744073709551615 word (Err e) (omega arith) parses
