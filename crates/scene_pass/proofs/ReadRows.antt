-- A row that is read in its table: its values, and those that steps write.
use Rattle.std.proofs.Common.{◌≡◌, ◌<◌, ℕ, zero, suc, ◌+◌, true, false, cond, List, [], ◌∷◌, ◌++◌, append_assoc, length, map, drop, slice_index_or, refl, ap, sym, ◌∙◌, arith, Option, Some, None, IfSome, nat_eq}
use Rattle.std.specs.Prelude.{option_map, slice_get}
use Rattle.std.specs.Option.{option_flatten}
use Rattle.std.specs.Ordering.{nat_cmp, eq_by_cmp}
use Rattle.std.specs.FinMap.Entries.{find}
use Rattle.std.proofs.lemmas.Option.{slice_get-get_or, unwrap_or-slice_get}
use Rattle.scene_kinds.specs.declared.cell.Cell.{Cell}
use Rattle.scene_kinds.specs.declared.cells.Row.{Row}
use Rattle.scene_kinds.specs.declared.value.Value.{Value}
use Rattle.scene_kinds.specs.Cells.{cell_of}
use Rattle.scene_kinds.proofs.Positions.{found}
use Rattle.scene_table.specs.Table.{cell_at}
use Rattle.scene_table.specs.declared.row_step.RowStep.{RowStep}
use Rattle.scene_table.specs.RowStep.{is_written}
use Rattle.scene_pass.specs.Changes.{Values, values_of}
use Rattle.scene_pass.specs.InPlace.{no_row, row_in, written_of, place_of, value_at}
use Rattle.scene_pass.proofs.RowSteps.{drop_at}

-- a cell's value, with its kind
abbrev valued : ℕ × Cell → ℕ × Value
valued c = (c.0, c.1.value)

-- the row at a place within
pub row_stands : (rows : List Row) (at : ℕ) → at < length rows → slice_get rows at ≡ Some (row_in rows at)
row_stands rows at within = slice_get-get_or rows at no_row within ∙ ap Some (sym (unwrap_or-slice_get rows at no_row))

-- the value of a kind
find_value : (kind : ℕ) (cells : List (ℕ × Cell)) → find nat_cmp kind (map valued cells) ≡ option_map (λ (c : Cell). c.value) (cell_of cells kind)
find_value kind [] = refl
find_value kind (c ∷ cs) = elim (eq_by_cmp nat_cmp kind c.0) as (λ b. cond b (Some c.1.value) (find nat_cmp kind (map valued cs)) ≡ option_map (λ (d : Cell). d.value) (cond b (Some c.1) (cell_of cs kind))) [
  | true ↦ refl
  | false ↦ find_value kind cs
]

pub value_there : (rows : List Row) (at kind : ℕ) (cell : Option Cell) → at < length rows → cell ≡ cell_at rows at kind → option_map (λ (c : Cell). c.value) cell ≡ find nat_cmp kind (values_of (row_in rows at))
value_there rows at kind cell within is =
    ap (option_map (λ (c : Cell). c.value)) (is ∙ ap (λ o. option_flatten (option_map (λ (row : Row). cell_of row.cells kind) o)) (row_stands rows at within))
    ∙ sym (find_value kind (row_in rows at).cells)

-- the value of a number
nth_of : {X Y : Type 0} (f : X → Y) (xs : List X) (n : ℕ) → slice_get (map f xs) n ≡ option_map f (slice_get xs n)
nth_of f [] n = refl
nth_of f (x ∷ xs) zero = refl
nth_of f (x ∷ xs) (suc n) = nth_of f xs n

pub nth_value : (row : Row) (n kind : ℕ) (cell : Cell) → slice_get row.cells n ≡ Some (kind, cell) → slice_get (values_of row) n ≡ Some (kind, cell.value)
nth_value row n kind cell there = nth_of valued row.cells n ∙ ap (option_map valued) there

-- ---- the values that steps write

-- one more value that is written, and one that isn't
pub value_pushed : (steps : List RowStep) (values : Values) (n : ℕ) (v : ℕ × Value) (old new : Values) → slice_get values n ≡ Some v → is_written steps v.0 ≡ true → new ≡ old ++ v ∷ []
    → new ++ written_of steps (drop (n + 1) values) ≡ old ++ written_of steps (drop n values)
value_pushed steps values n v old new there written pushed =
    let rest = written_of steps (drop (n + 1) values) in
    ap (λ vs. vs ++ rest) pushed ∙ append_assoc old (v ∷ []) rest ∙ ap (λ vs. old ++ vs) (sym (drop_at (written_of steps) values n v there ∙ ap (λ b. cond b (v ∷ rest) rest) written))

pub value_passed : (steps : List RowStep) (values : Values) (n : ℕ) (v : ℕ × Value) (old : Values) → slice_get values n ≡ Some v → is_written steps v.0 ≡ false
    → old ++ written_of steps (drop (n + 1) values) ≡ old ++ written_of steps (drop n values)
value_passed steps values n v old there other =
    let rest = written_of steps (drop (n + 1) values) in ap (λ vs. old ++ vs) (sym (drop_at (written_of steps) values n v there ∙ ap (λ b. cond b (v ∷ rest) rest) other))

-- ---- places

-- the place of a kind is one of the values'
pub place_within : (values : Values) (kind : ℕ) (r : Option ℕ) → r ≡ place_of values kind → IfSome r (λ at. at < length values)
place_within values kind None is = tt
place_within values kind (Some at) is = found (λ (v : ℕ × Value). nat_eq kind v.0) (λ vs i. i < length vs) (λ v vs t. omega arith) (λ v vs i t l. omega arith) values at (sym is)

-- the value at a place within
pub value_here : (values : Values) (at : ℕ) (d : ℕ × Value) → at < length values → value_at values at ≡ Some (slice_index_or values at d).1
value_here values at d within = ap (option_map (λ (v : ℕ × Value). v.1)) (slice_get-get_or values at d within)
