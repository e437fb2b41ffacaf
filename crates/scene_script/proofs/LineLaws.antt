-- The first line of a text, and those behind it.
use Rattle.std.proofs.Common.{◌≡◌, ℕ, suc, ◌+◌, ◌<◌, ◌≤◌, List, [], ◌∷◌, length, take, drop, Some, None, Bool, true, false, cond, nat_lt, arith, refl, ap, ◌∙◌, subst}
use Rattle.std.specs.Prelude.{position, ◌==◌}
use Rattle.std.specs.List.{slice_split, position_or_len, onto_first}
use Rattle.std.specs.Str.Lines.{lines, lines_of_parts, strip_carriage_return}
use Rattle.std.proofs.lemmas.List.Splits.{slice_split_first, slice_split-cons_no, slice_split-cons_yes}
use borrow.Author.Tests.{ltb-true, ltb-false}
use Rattle.std.proofs.lemmas.Bool.Decides.{nat_tests}
use Rattle.scene_kinds.proofs.Cuts.{none_chosen}

-- a line feed
abbrev is_end : ℕ → Bool
is_end b = b == 10

-- a test that gave a place passed
some_chosen : (b : Bool) (n at : ℕ) → cond b (Some n) None ≡ Some at → (b ≡ true) × (n ≡ at)
some_chosen true n at e = (refl, cc e)
some_chosen false n at e = absurd (cc e)

-- one byte more, and there is a part
more_at : (b : Bool) (x : ℕ) (xs : List ℕ) → is_end x ≡ b → (y : List ℕ) × (ys : List (List ℕ)) × (slice_split is_end xs ≡ y ∷ ys) → (y : List ℕ) × (ys : List (List ℕ)) × (slice_split is_end (x ∷ xs) ≡ y ∷ ys)
more_at true x xs e later = ([], slice_split is_end xs, slice_split-cons_yes is_end x xs e)
more_at false x xs e later = (x ∷ later.0, later.1, slice_split-cons_no is_end x xs e ∙ ap (onto_first x) later.2)

-- there is a part
parts_of : (xs : List ℕ) → (y : List ℕ) × (ys : List (List ℕ)) × (slice_split is_end xs ≡ y ∷ ys)
parts_of [] = ([], [], refl)
parts_of (x ∷ xs) = more_at (is_end x) x xs refl (parts_of xs)

-- a part that others follow is a line, without its carriage return
before_parts : (x : List ℕ) (parts : List (List ℕ)) → (y : List ℕ) × (ys : List (List ℕ)) × (parts ≡ y ∷ ys) → lines_of_parts (x ∷ parts) ≡ strip_carriage_return x ∷ lines_of_parts parts
before_parts x parts h = rw h.2 refl

-- one byte more, and there is one part
none_at : (b : Bool) (x : ℕ) (xs : List ℕ) → is_end x ≡ b → suc (length xs) ≤ position_or_len is_end (x ∷ xs)
    → (length xs ≤ position_or_len is_end xs → slice_split is_end xs ≡ xs ∷ []) → slice_split is_end (x ∷ xs) ≡ (x ∷ xs) ∷ []
none_at true x xs e h later = let k = rw e at h in absurd (omega (arith, k))
none_at false x xs e h later = let k = rw e at h in slice_split-cons_no is_end x xs e ∙ ap (onto_first x) (later (omega (arith, k)))

-- without a line feed there is one part
no_end : (xs : List ℕ) → length xs ≤ position_or_len is_end xs → slice_split is_end xs ≡ xs ∷ []
no_end [] h = refl
no_end (x ∷ xs) h = none_at (is_end x) x xs refl h (no_end xs)

-- one part that has a byte is a line as it stands
one_part : (x : ℕ) (xs : List ℕ) → lines_of_parts ((x ∷ xs) ∷ []) ≡ (x ∷ xs) ∷ []
one_part x xs = grind (arith, nat_tests)

-- without a line feed there is one line
pub lines_one : (bs : List ℕ) → position (λ b. b == 10) bs ≡ None → 0 < length bs → lines bs ≡ bs ∷ []
lines_one [] e h = absurd (omega arith)
lines_one (x ∷ xs) e h =
    let t = none_chosen (nat_lt (position_or_len is_end (x ∷ xs)) (length (x ∷ xs))) _ e in
    ap lines_of_parts (no_end (x ∷ xs) (ltb-false _ _ t)) ∙ one_part x xs

-- before the first line feed stands the first line, and after it the others
pub lines_more : (bs : List ℕ) (at : ℕ) → position (λ b. b == 10) bs ≡ Some at → (at < length bs) × (lines bs ≡ strip_carriage_return (take at bs) ∷ lines (drop (at + 1) bs))
lines_more bs at e =
    let t = some_chosen (nat_lt (position_or_len is_end bs) (length bs)) (position_or_len is_end bs) at e in
    let h = ltb-true _ _ t.0 in
    let split = slice_split_first is_end bs 0 h in
    subst (λ (n : ℕ). (n < length bs) × (lines bs ≡ strip_carriage_return (take n bs) ∷ lines (drop (n + 1) bs))) t.1
    (h, ap lines_of_parts split ∙ before_parts (take (position_or_len is_end bs) bs) (slice_split is_end (drop (position_or_len is_end bs + 1) bs)) (parts_of (drop (position_or_len is_end bs + 1) bs)))

pub ruleset line_laws = (lines_one, lines_more)
