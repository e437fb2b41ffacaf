-- The lines of a checkpoint as comments, told apart.
use Rattle.std.proofs.Common.{◌≡◌, ◌⊎◌, ℕ, zero, suc, ◌+◌, ◌/◌, ◌%◌, ◌^◌, ◌<◌, ◌≤◌, List, [], ◌∷◌, ◌++◌, Bool, true, false, cond, length, map, codes, decimal, get_or, inl, inr, arith, refl, sym, ap, subst, ◌∙◌, append_assoc}
use Rattle.std.specs.Prelude.{nat_eq, nat_lt}
use Rattle.std.specs.List.{AllByRecursion}
use Rattle.std.specs.Fmt.{digit_glyph, digits, digits_onto}
use Rattle.std.specs.Str.Parse.{digits_value}
use Rattle.std.proofs.lemmas.Bool.{cases_order}
use Rattle.std.proofs.lemmas.List.{append_cancel_left}
use Rattle.std.proofs.lemmas.Fmt.{decimal_is_IsNumeral_wide, length-decimal-le}
use Rattle.std.proofs.Math.Nat.{one-le-pow, pow-suc}
use borrow.Author.Tests.{eqb-true, ltb-false}
use Rattle.scene_interpreter.specs.declared.progress.Progress.{Progress}
use Rattle.scene_kept_lines.specs.Checkpoints.{EndsNone, IsSayable, end_of, marked}
use Rattle.scene_kept_lines.proofs.Lists.{cons_head, cons_tail}

-- ---- numbers

abbrev pub IsDigit : ℕ → Type 0
IsDigit b = (48 ≤ b) × (b < 58)

-- so many of a number's last digits at most, before others
abbrev pub last_digits : ℕ → ℕ → List ℕ → List ℕ
last_digits k n behind = digits_onto k 10 false n behind

abbrev pub with_last : ℕ → List ℕ → List ℕ
with_last n behind = digit_glyph false (n % 10) ∷ behind

glyph_is : (d : ℕ) → d < 10 → IsDigit (digit_glyph false d)
glyph_is d small = by (nat_lt d 10) refl
  where
    by : (t : Bool) → nat_lt d 10 ≡ t → IsDigit (cond t (48 + d) (87 + d))
    by true is = (omega arith, omega arith)
    by false is = absurd (omega (arith, ltb-false d 10 is))

last_are : (k n : ℕ) (behind : List ℕ) → AllByRecursion IsDigit behind → AllByRecursion IsDigit (last_digits k n behind)
last_are zero n behind are = are
last_are (suc k) n behind are =
    let more : AllByRecursion IsDigit (with_last n behind) = (glyph_is (n % 10) (omega arith), are) in
    by (nat_eq (n / 10) 0) (with_last n behind) (last_digits k (n / 10) (with_last n behind)) more (last_are k (n / 10) (with_last n behind) more)
  where
    by : (t : Bool) (xs ys : List ℕ) → AllByRecursion IsDigit xs → AllByRecursion IsDigit ys → AllByRecursion IsDigit (cond t xs ys)
    by true xs ys first last = first
    by false xs ys first last = last

-- a number that has as many takes all their places
last_full : (k n : ℕ) (behind : List ℕ) → 10 ^ k ≤ n → length (last_digits k n behind) ≡ k + length behind
last_full zero n behind large = omega arith
last_full (suc k) n behind large =
    by (nat_eq (n / 10) 0) refl (last_full k (n / 10) (with_last n behind) (omega (arith, large, pow-suc 10 k)))
  where
    by : (t : Bool) → nat_eq (n / 10) 0 ≡ t → length (last_digits k (n / 10) (with_last n behind)) ≡ k + length (with_last n behind)
        → length (cond t (with_last n behind) (last_digits k (n / 10) (with_last n behind))) ≡ suc k + length behind
    by true is full = absurd (omega (arith, eqb-true (n / 10) 0 is, large, pow-suc 10 k, one-le-pow k 10 (omega arith)))
    by false is full = omega (arith, full)

digits_are : (n : ℕ) → AllByRecursion IsDigit (decimal n)
unfolding digits
digits_are n = last_are 64 n [] tt

decimal_full : (n : ℕ) → 10 ^ 64 ≤ n → length (decimal n) ≡ 64
unfolding digits
decimal_full n large = omega (arith, last_full 64 n [] large)

-- A number below 2 ^ 64 is told by its text from all others. (The text of one of more than 64 digits is its last 64.)
decimal_tells : (m n : ℕ) → n < 2 ^ 64 → decimal m ≡ decimal n → m ≡ n
decimal_tells m n small is = by (cases_order m (10 ^ 64))
  where
    full : 10 ^ 64 ≤ m → ⊥
    full large = omega (arith, decimal_full m large, ap length is, length-decimal-le 20 n (omega arith) (omega arith) small)

    by : (m ≡ 10 ^ 64) ⊎ ((m < 10 ^ 64) ⊎ (10 ^ 64 < m)) → m ≡ n
    by (inl same) = absurd (full (omega (arith, same)))
    by (inr (inr large)) = absurd (full (omega (arith, large)))
    by (inr (inl fits)) = sym (decimal_is_IsNumeral_wide m fits).1 ∙ ap (digits_value 10) is ∙ (decimal_is_IsNumeral_wide n (omega arith)).1

-- no digit is first
abbrev pub IsCut : List ℕ → Type 0
IsCut [] = Unit {0}
IsCut (b ∷ bs) = IsDigit b → ⊥

-- digits that stand before no digit are the same where all is
cut_digits : (xs ys us vs : List ℕ) → AllByRecursion IsDigit xs → AllByRecursion IsDigit ys → IsCut us → IsCut vs → xs ++ us ≡ ys ++ vs
    → (xs ≡ ys) × (us ≡ vs)
cut_digits [] [] us vs first second cut other is = (refl, is)
cut_digits [] (y ∷ ys) [] vs first second cut other is = absurd (cc is)
cut_digits [] (y ∷ ys) (u ∷ us) vs first second cut other is = absurd (cut (subst IsDigit (cons_head y u (ys ++ vs) us (sym is)) second.0))
cut_digits (x ∷ xs) [] us [] first second cut other is = absurd (cc is)
cut_digits (x ∷ xs) [] us (v ∷ vs) first second cut other is = absurd (other (subst IsDigit (cons_head x v (xs ++ us) vs is) first.0))
cut_digits (x ∷ xs) (y ∷ ys) us vs first second cut other is =
    let rest = cut_digits xs ys us vs first.1 second.1 cut other (cons_tail x y (xs ++ us) (ys ++ vs) is) in
    ((λ i. cons_head x y (xs ++ us) (ys ++ vs) is i ∷ rest.0 i), rest.1)

cut_decimals : (m n : ℕ) (us vs : List ℕ) → n < 2 ^ 64 → IsCut us → IsCut vs → decimal m ++ us ≡ decimal n ++ vs → (m ≡ n) × (us ≡ vs)
cut_decimals m n us vs small cut other is =
    let both = cut_digits (decimal m) (decimal n) us vs (digits_are m) (digits_are n) cut other is in
    (decimal_tells m n small both.0, both.1)

-- ---- the comments

pub unmark : (a b : List ℕ) → marked a ≡ marked b → a ≡ b
unmark a b is = cc is

pub unmark_all : (ls ms : List (List ℕ)) → map marked ls ≡ map marked ms → ls ≡ ms
unmark_all [] [] is = refl
unmark_all [] (m ∷ ms) is = cc is
unmark_all (l ∷ ls) [] is = cc is
unmark_all (l ∷ ls) (m ∷ ms) is =
    let same : l ≡ m = unmark l m (cons_head (marked l) (marked m) (map marked ls) (map marked ms) is) in
    let others = unmark_all ls ms (cons_tail (marked l) (marked m) (map marked ls) (map marked ms) is) in
    λ i. same i ∷ others i

regrouped : (a b c d e f g h i j : List ℕ) → (((((a ++ b) ++ c) ++ d) ++ e) ++ f) ++ (((g ++ h) ++ i) ++ j)
    ≡ a ++ (b ++ (c ++ (d ++ (e ++ (f ++ (g ++ (h ++ (i ++ j))))))))
regrouped a b c d e f g h i j = simp append_assoc

-- the comment from one of its numbers on
abbrev pub from_tick : Progress → List ℕ
from_tick x = decimal x.cursor.tick

abbrev pub from_mark : Progress → List ℕ
from_mark x = decimal x.cursor.rewinds ++ (codes " " ++ from_tick x)

abbrev pub from_undos : Progress → List ℕ
from_undos x = decimal x.rewinds ++ (codes ", mark " ++ from_mark x)

abbrev pub from_calls : Progress → List ℕ
from_calls x = decimal x.calls ++ (codes ", undos " ++ from_undos x)

abbrev pub from_count : ℕ → Progress → List ℕ
from_count count x = decimal count ++ (codes ", calls " ++ from_calls x)

end_parts : (count : ℕ) (x : Progress) → end_of count x ≡ codes "# checkpoint of lines " ++ from_count count x
end_parts count x =
    regrouped (codes "# checkpoint of lines ") (decimal count) (codes ", calls ") (decimal x.calls) (codes ", undos ") (decimal x.rewinds)
    (codes ", mark ") (decimal x.cursor.rewinds) (codes " ") (decimal x.cursor.tick)

no_comma : IsDigit 44 → ⊥
no_comma is = omega (arith, is)

no_space : IsDigit 32 → ⊥
no_space is = omega (arith, is)

-- a comment tells what it says, where its numbers are below 2 ^ 64
pub same_ends : (m n : ℕ) (x y : Progress) → IsSayable n y → end_of m x ≡ end_of n y → (m ≡ n) × (x ≡ y)
same_ends m n x y small is =
    let first = append_cancel_left (codes "# checkpoint of lines ") (from_count m x) (from_count n y) (sym (end_parts m x) ∙ is ∙ end_parts n y) in
    let count = cut_decimals m n _ _ small.lines no_comma no_comma first in
    let calls = cut_decimals x.calls y.calls _ _ small.calls no_comma no_comma (append_cancel_left (codes ", calls ") _ _ count.1) in
    let undos = cut_decimals x.rewinds y.rewinds _ _ small.rewinds no_comma no_comma (append_cancel_left (codes ", undos ") _ _ calls.1) in
    let mark = cut_decimals x.cursor.rewinds y.cursor.rewinds _ _ small.mark no_space no_space (append_cancel_left (codes ", mark ") _ _ undos.1) in
    let tick = decimal_tells x.cursor.tick y.cursor.tick small.tick (append_cancel_left (codes " ") _ _ mark.1) in
    (count.0, λ i. record { calls = calls.0 i; rewinds = undos.0 i; cursor = record { rewinds = mark.0 i; tick = tick i } })

-- a line of a checkpoint doesn't end one
pub marked_ends_none : (l : List ℕ) → EndsNone (marked l)
marked_ends_none l count x is = omega (arith, ap (λ t. get_or t 12 0) (is ∙ end_parts count x))
