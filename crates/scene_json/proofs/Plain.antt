-- Bytes that stand in a JSON string as they are.
use Rattle.std.proofs.Common.{arith, ◌≡◌, ◌≢◌, ◌≤◌, ℕ, List, [], ◌∷◌, ◌++◌, refl, ap, sym, ◌∙◌, append_assoc}
use Rattle.std.specs.Prelude.{false, ◌==◌, nat_lt}
use Rattle.std.proofs.lemmas.Bool.Decides.{nat_tests}
use Rattle.json.specs.Print.{escape_byte, escape}

-- a byte that is no control character, no quote and no backslash
pub plain_byte : (x : ℕ) → 32 ≤ x → x ≢ 34 → x ≢ 92 → escape_byte x ≡ x ∷ []
unfolding escape_byte
plain_byte x h q s =
    let quote : x == 34 ≡ false = grind (arith, nat_tests) in
    let slash : x == 92 ≡ false = grind (arith, nat_tests) in
    let back : x == 8 ≡ false = grind (arith, nat_tests) in
    let form : x == 12 ≡ false = grind (arith, nat_tests) in
    let line : x == 10 ≡ false = grind (arith, nat_tests) in
    let return : x == 13 ≡ false = grind (arith, nat_tests) in
    let tab : x == 9 ≡ false = grind (arith, nat_tests) in
    let low : nat_lt x 32 ≡ false = grind (arith, nat_tests) in
    simp (quote, slash, back, form, line, return, tab, low) refl

escape_append : (s t : List ℕ) → escape (s ++ t) ≡ escape s ++ escape t
escape_append [] t = refl
escape_append (x ∷ s) t = ap (λ r. escape_byte x ++ r) (escape_append s t) ∙ sym (append_assoc (escape_byte x) (escape s) (escape t))

-- one more byte that stands as it is
pub more_plain : (s : List ℕ) (x : ℕ) → escape s ≡ s → escape_byte x ≡ x ∷ [] → escape (s ++ x ∷ []) ≡ s ++ x ∷ []
more_plain s x h p = escape_append s (x ∷ []) ∙ ap (λ r. r ++ (escape_byte x ++ [])) h ∙ ap (λ r. s ++ (r ++ [])) p
