-- Texts that stand in a string as they are, and whole numbers in decimal.
use Rattle.std.proofs.Common.{arith, ◌≡◌, ◌<◌, ◌≤◌, ◌^◌, ◌+◌, ◌%◌, ℕ, List, [], ◌∷◌, ◌++◌, refl, ap, sym, ◌∙◌, append_assoc}
use Rattle.std.specs.Prelude.{ℤ, pos, negsuc, codes, decimal, false, ◌==◌, nat_lt}
use Rattle.std.specs.Fmt.{signed_decimal}
use Rattle.std.proofs.lemmas.Bool.Decides.{nat_tests}
use Rattle.std.proofs.lemmas.Fmt.{decimal_by_steps}
use Rattle.json.specs.Print.{escape_byte, escape}
use Rattle.serde_json.specs.Written.{compact_text}
use Rattle.scene_kinds.specs.declared.entity.Entity.{Entity}
use Rattle.scene_kinds.specs.Entity.{entity_text}
use Rattle.scene_json_forms.specs.Text.{entity_json, int_text, list_text}
use Rattle.scene_json_forms.specs.Printing.{three_text}

-- a whole number stands in decimal
pub int_digits : (z : ℤ) → compact_text (int_text z) ≡ signed_decimal z
int_digits (pos n) = refl
int_digits (negsuc n) = refl

-- three whole numbers in a list
pub three_listed : (x y z : ℤ) → compact_text (list_text int_text (x ∷ y ∷ z ∷ [])) ≡ codes "[" ++ (three_text x y z ++ codes "]")
three_listed x y z = simp (int_digits, append_assoc) refl

-- bytes that a string holds as they are
abbrev IsPlain : List ℕ → Type 0
IsPlain s = escape s ≡ s

-- a digit stands for itself
digit_plain : (n : ℕ) → n < 10 → escape_byte (48 + n) ≡ (48 + n) ∷ []
unfolding escape_byte
digit_plain n h =
    let quote : 48 + n == 34 ≡ false = grind (arith, nat_tests) in
    let slash : 48 + n == 92 ≡ false = grind (arith, nat_tests) in
    let back : 48 + n == 8 ≡ false = grind (arith, nat_tests) in
    let form : 48 + n == 12 ≡ false = grind (arith, nat_tests) in
    let line : 48 + n == 10 ≡ false = grind (arith, nat_tests) in
    let return : 48 + n == 13 ≡ false = grind (arith, nat_tests) in
    let tab : 48 + n == 9 ≡ false = grind (arith, nat_tests) in
    let low : nat_lt (48 + n) 32 ≡ false = grind (arith, nat_tests) in
    simp (quote, slash, back, form, line, return, tab, low) refl

escape_append : (s t : List ℕ) → escape (s ++ t) ≡ escape s ++ escape t
escape_append [] t = refl
escape_append (x ∷ s) t = ap (λ r. escape_byte x ++ r) (escape_append s t) ∙ sym (append_assoc (escape_byte x) (escape s) (escape t))

one_plain : (n : ℕ) → n < 10 → IsPlain ((48 + n) ∷ [])
one_plain n h = ap (λ r. r ++ []) (digit_plain n h)

more_plain : (n : ℕ) (ds : List ℕ) → 10 ≤ n → IsPlain ds → IsPlain (ds ++ (48 + n % 10) ∷ [])
more_plain n ds h p = escape_append ds ((48 + n % 10) ∷ []) ∙ ap (λ r. r ++ escape ((48 + n % 10) ∷ [])) p
    ∙ ap (λ r. ds ++ r) (one_plain (n % 10) (omega arith))

decimal_plain : (n : ℕ) → n < 2 ^ 64 → IsPlain (decimal n)
decimal_plain n h = decimal_by_steps (λ n ds. IsPlain ds) one_plain more_plain n h

entity_plain : (i g : ℕ) → i < 2 ^ 64 → g < 2 ^ 64 → IsPlain (entity_text i g)
unfolding escape_byte
entity_plain i g h k = escape_append (decimal i) (118 ∷ decimal g) ∙ ap (λ s. s ++ (118 ∷ escape (decimal g))) (decimal_plain i h)
    ∙ ap (λ s. decimal i ++ (118 ∷ s)) (decimal_plain g k)

-- an entity's text stands between quotes as it is
pub entity_quoted : (e : Entity) → e.index < 2 ^ 32 → e.generation < 2 ^ 32 → compact_text (entity_json e)
    ≡ 34 ∷ (entity_text e.index e.generation ++ 34 ∷ [])
entity_quoted e h k = ap (λ s. 34 ∷ (s ++ 34 ∷ [])) (entity_plain e.index e.generation (omega (arith, h)) (omega (arith, k)))
