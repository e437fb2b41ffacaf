-- The first line of a text, taken with its line break.
use Rattle.std.proofs.Common.{◌≡◌, ℕ, ◌<◌, List, [], ◌∷◌, Bool, true, false, cond, length, arith, refl, sym, ap, ◌∙◌}
use Rattle.std.specs.Prelude.{◌==◌}
use Rattle.std.specs.List.{slice_split, onto_first}
use Rattle.std.specs.Str.Lines.{lines, lines_of_parts, strip_carriage_return}
use Rattle.std.specs.Io.BufRead.{drop_through, take_through}
use Rattle.std.proofs.lemmas.List.Splits.{slice_split-cons_no, slice_split-cons_yes}
use Rattle.std.proofs.lemmas.Bool.Decides.{nat_tests}

-- a line feed
abbrev pub is_end : ℕ → Bool
is_end b = b == 10

-- a text has a part, whatever parts it
abbrev pub HasPart : (ℕ → Bool) → List ℕ → Type 0
HasPart f xs = (y : List ℕ) × (ys : List (List ℕ)) × (slice_split f xs ≡ y ∷ ys)

part_at : (f : ℕ → Bool) (b : Bool) (x : ℕ) (xs : List ℕ) → f x ≡ b → HasPart f xs → HasPart f (x ∷ xs)
part_at f true x xs e later = ([], slice_split f xs, slice_split-cons_yes f x xs e)
part_at f false x xs e later = (x ∷ later.0, later.1, slice_split-cons_no f x xs e ∙ ap (onto_first x) later.2)

pub has_part : (f : ℕ → Bool) (xs : List ℕ) → HasPart f xs
has_part f [] = ([], [], refl)
has_part f (x ∷ xs) = part_at f (f x) x xs refl (has_part f xs)

-- a part that others follow is a line, without its carriage return
pub line_before : (y : List ℕ) (xs : List ℕ) → HasPart is_end xs → lines_of_parts (y ∷ slice_split is_end xs) ≡ strip_carriage_return y ∷ lines xs
line_before y xs h = rw h.2 refl

-- what stands through the first line feed, and behind it: a part and an empty one, or, where there is none, all as one
-- part
pub data Cut : List ℕ → Type 0 where
  Ended : {xs : List ℕ} (y : List ℕ) → slice_split is_end (take_through 10 xs) ≡ y ∷ [] ∷ [] → slice_split is_end xs ≡ y ∷ slice_split is_end (drop_through 10 xs) → Cut xs
  Open : {xs : List ℕ} → take_through 10 xs ≡ xs → drop_through 10 xs ≡ [] → slice_split is_end xs ≡ xs ∷ [] → Cut xs

cut_at : (b : Bool) (x : ℕ) (xs : List ℕ) → is_end x ≡ b → Cut xs → Cut (x ∷ xs)
cut_at true x xs e later =
    Ended [] (ap (λ t. slice_split is_end (cond t (x ∷ []) (x ∷ take_through 10 xs))) e ∙ slice_split-cons_yes is_end x [] e)
    (slice_split-cons_yes is_end x xs e ∙ ap (λ t. [] ∷ slice_split is_end (cond t xs (drop_through 10 xs))) (sym e))
cut_at false x xs e (Ended y front back) =
    Ended (x ∷ y) (ap (λ t. slice_split is_end (cond t (x ∷ []) (x ∷ take_through 10 xs))) e ∙ slice_split-cons_no is_end x (take_through 10 xs) e ∙ ap (onto_first x) front)
    (slice_split-cons_no is_end x xs e ∙ ap (onto_first x) back ∙ ap (λ t. (x ∷ y) ∷ slice_split is_end (cond t xs (drop_through 10 xs))) (sym e))
cut_at false x xs e (Open front back whole) =
    Open (ap (λ t. cond t (x ∷ []) (x ∷ take_through 10 xs)) e ∙ ap (λ t. x ∷ t) front)
    (ap (λ t. cond t xs (drop_through 10 xs)) e ∙ back) (slice_split-cons_no is_end x xs e ∙ ap (onto_first x) whole)

cut_of : (xs : List ℕ) → Cut xs
cut_of [] = Open refl refl refl
cut_of (x ∷ xs) = cut_at (is_end x) x xs refl (cut_of xs)

-- one part that has a byte is a line as it stands
one_line : (xs : List ℕ) → 0 < length xs → lines_of_parts (xs ∷ []) ≡ xs ∷ []
one_line [] some = absurd (omega arith)
one_line (x ∷ xs) some = grind (arith, nat_tests)

-- the text through its first line break is one line, which is the first of the text; the others stand behind it
abbrev pub IsFirstLine : List ℕ → List ℕ → Type 0
IsFirstLine l xs = (lines (take_through 10 xs) ≡ l ∷ []) × (lines xs ≡ l ∷ lines (drop_through 10 xs))

first_of : (xs : List ℕ) → 0 < length xs → Cut xs → (l : List ℕ) × IsFirstLine l xs
first_of xs some (Ended y front back) =
    (strip_carriage_return y, (ap lines_of_parts front, ap lines_of_parts back ∙ line_before y (drop_through 10 xs) (has_part is_end (drop_through 10 xs))))
first_of xs some (Open front back whole) =
    let one : lines xs ≡ xs ∷ [] = ap lines_of_parts whole ∙ one_line xs some in
    (xs, (ap lines front ∙ one, one ∙ ap (λ t. xs ∷ lines t) (sym back)))

pub first_line_of : (xs : List ℕ) → 0 < length xs → (l : List ℕ) × IsFirstLine l xs
first_line_of xs some = first_of xs some (cut_of xs)
