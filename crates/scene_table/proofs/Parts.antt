-- Columns of which one more, or one less, takes its cell than there are others.
use Rattle.std.proofs.Common.{◌≡◌, ℕ, suc, ◌+◌, ◌<◌, ◌≤◌, List, [], ◌∷◌, ◌++◌, length, get_or, take, drop, refl, ap, subst, sym, ◌∙◌, arith, Some}
use Rattle.std.specs.Prelude.{slice_get, slice_set, insert, remove}
use Rattle.std.specs.Option.{option_map}
use Rattle.std.proofs.lemmas.List.{length-take-le, length-append}
use Rattle.std.proofs.lemmas.Option.{slice_get-get_or}
use Rattle.scene_kinds.specs.declared.cell.Cell.{Cell}
use Rattle.scene_table.specs.Columns.{ColumnState, AreCellsAt, back_in_column, put_each}
use Rattle.scene_table.proofs.ColumnLists.{put-append, cell_read, length-cells_at, cells-take, cells-drop}

-- the cells of the low columns
pub low_cells : (columns low : List ColumnState) (at n : ℕ) (cells : List (ℕ × Cell)) → AreCellsAt columns at cells → low ≡ take n columns → AreCellsAt low at (take n cells)
low_cells columns low at n cells are is = subst (λ t. AreCellsAt t at (take n cells)) (sym is) (cells-take columns at n cells are)

-- and of the high ones
pub high_cells : (columns high : List ColumnState) (at n : ℕ) (cells : List (ℕ × Cell)) → AreCellsAt columns at cells → high ≡ drop n columns → AreCellsAt high at (drop n cells)
high_cells columns high at n cells are is = subst (λ t. AreCellsAt t at (drop n cells)) (sym is) (cells-drop columns at n cells are)

-- a cell is gained between the low columns and the high ones
pub gained_between : (to n kind : ℕ) (cells : List (ℕ × Cell)) (cell : Cell) (target low gained high new_low new_high : List ColumnState) (new d : ColumnState) →
    target ≡ low ++ (gained ++ high) → length gained ≡ 1 → length low ≡ n → n ≤ length cells → new_low ≡ put_each to (take n cells) low → new_high ≡ put_each to (drop n cells) high →
    new ≡ back_in_column to (get_or gained 0 d) cell → new_low ++ (slice_set gained 0 new ++ new_high) ≡ put_each to (insert cells n (kind, cell)) target
gained_between to n kind cells cell target low [] high new_low new_high new d parts one at l is_low is_high is = absurd (omega arith)
gained_between to n kind cells cell target low (g ∷ h ∷ gs) high new_low new_high new d parts one at l is_low is_high is = absurd (omega arith)
gained_between to n kind cells cell target low (g ∷ []) high new_low new_high new d parts one at l is_low is_high is =
    (λ i. is_low i ++ (is i ∷ is_high i))
    ∙ sym (put-append to (take n cells) ((kind, cell) ∷ drop n cells) low (g ∷ high) (length-take-le n cells l ∙ sym at))
    ∙ ap (put_each to (insert cells n (kind, cell))) (sym parts)

-- the cell that is lost between them
pub lost_between : (at n : ℕ) (cells : List (ℕ × Cell)) (source low lost high : List ColumnState) (cell : Cell) (d : ColumnState) → AreCellsAt source at cells →
    source ≡ low ++ (lost ++ high) → length lost ≡ 1 → length low ≡ n → slice_get (get_or lost 0 d).cells at ≡ Some cell → option_map (λ (c : ℕ × Cell). c.1) (slice_get cells n) ≡ Some cell
lost_between at n cells source low [] high cell d are parts one is_n is = absurd (omega arith)
lost_between at n cells source low (g ∷ h ∷ gs) high cell d are parts one is_n is = absurd (omega arith)
lost_between at n cells source low (g ∷ []) high cell d are parts one is_n is =
    let count : length source ≡ length low + length (g ∷ high) = ap length parts ∙ length-append low (g ∷ high) in
    let here : get_or source n d ≡ g = ap (λ t. get_or t n d) parts ∙ ap (λ k. get_or (low ++ g ∷ high) k d) (sym is_n) ∙ get_behind low in
    let within : n < length cells = omega (arith, length-cells_at source at cells are) in
    ap (option_map (λ (c : ℕ × Cell). c.1)) (slice_get-get_or cells n (0, cell) within)
    ∙ sym (cell_read source at cells n d (0, cell) are (omega arith)) ∙ ap (λ t. slice_get t.cells at) here ∙ is
  where
    get_behind : (xs : List ColumnState) → get_or (xs ++ g ∷ high) (length xs) d ≡ g
    get_behind [] = refl
    get_behind (x ∷ xs) = get_behind xs

-- the cells that are left
pub left_around : (to n : ℕ) (cells : List (ℕ × Cell)) (target low high new_low new_high : List ColumnState) (left : List (ℕ × Cell)) →
    target ≡ low ++ high → length low ≡ n → n ≤ length cells → left ≡ drop (n + 1) cells → new_low ≡ put_each to (take n cells) low → new_high ≡ put_each to left high →
    new_low ++ new_high ≡ put_each to (remove cells n) target
left_around to n cells target low high new_low new_high left parts at l is is_low is_high =
    let next : n + 1 ≡ suc n = omega arith in
    (λ i. is_low i ++ (is_high ∙ ap (λ t. put_each to t high) (is ∙ ap (λ k. drop k cells) next)) i)
    ∙ sym (put-append to (take n cells) (drop (suc n) cells) low high (length-take-le n cells l ∙ sym at))
    ∙ ap (put_each to (remove cells n)) (sym parts)
