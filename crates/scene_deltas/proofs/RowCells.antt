-- The cells of a row, compared with others one by one.
use Rattle.std.proofs.Common.{◌≡◌, ℕ, ◌+◌, ◌<◌, ◌≤◌, List, length, take, get_or, ap, sym, ◌∙◌, arith, Some}
use Rattle.std.specs.Prelude.{option_map, slice_get}
use Rattle.std.proofs.lemmas.List.{take_all, take_more_same}
use Rattle.std.proofs.lemmas.Option.{same_Some, get_or_from_slice_get}
use Rattle.scene_kinds.specs.declared.cell.Cell.{Cell}
use Rattle.scene_kinds.specs.declared.cells.Row.{Row}

-- a row that was counted
pub counted : (rows : List Row) (place n : ℕ) (row : Row) → option_map (λ (r : Row). length r.cells) (slice_get rows place) ≡ Some n → slice_get rows place ≡ Some row → length row.cells ≡ n
counted rows place n row counts is = same_Some (length row.cells) n (sym (ap (option_map (λ (r : Row). length r.cells)) is) ∙ counts)

-- one more was the same
pub one_more : (xs ys : List (ℕ × Cell)) (i : ℕ) (x y : ℕ × Cell) → length ys ≡ length xs → i < length ys → take i xs ≡ take i ys
    → slice_get xs i ≡ Some x → y ≡ get_or ys i y → x ≡ y → take (i + 1) xs ≡ take (i + 1) ys
one_more xs ys i x y counts low same first second equal =
    take_more_same xs ys i y (omega (arith, counts, low)) low same (get_or_from_slice_get xs i x y first ∙ equal ∙ second)

-- equal lists have equal elements
pub one_same : (xs ys : List (ℕ × Cell)) (i : ℕ) (x y : ℕ × Cell) → xs ≡ ys → slice_get xs i ≡ Some x → y ≡ get_or ys i y → x ≡ y
one_same xs ys i x y same first second = sym (get_or_from_slice_get ys i x y (ap (λ zs. slice_get zs i) (sym same) ∙ first)) ∙ sym second

-- all that were compared were the same
pub all_same : (xs ys : List (ℕ × Cell)) (i : ℕ) → length ys ≡ length xs → take i xs ≡ take i ys → length ys ≤ i → xs ≡ ys
all_same xs ys i counts same end =
    sym (take_all i xs (omega (arith, counts, end))) ∙ same ∙ take_all i ys end
