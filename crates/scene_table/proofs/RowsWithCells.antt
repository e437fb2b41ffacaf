-- What a row has where cells or values are put over its own.
use Rattle.std.proofs.Common.{◌≡◌, ℕ, List, [], ◌∷◌, refl, ap, sym, ◌∙◌, true, false, T, cond, Option, Some, None}
use Rattle.std.specs.Option.{option_or}
use Rattle.std.specs.Ordering.{nat_cmp, eq_by_cmp, is_eq}
use Rattle.std.specs.FinMap.{nat_cmp-IsAntisymmetric}
use Rattle.std.specs.FinMap.Entries.{below_all, find, is_sorted}
use Rattle.scene_kinds.specs.Cells.{IsAscending, cell_of, put_over}
use Rattle.scene_kinds.specs.declared.cell.Cell.{Cell}
use Rattle.scene_kinds.specs.declared.cells.Row.{Row}
use Rattle.scene_kinds.specs.declared.value.Value.{Value}
use Rattle.scene_kinds.proofs.CellLaws.{ascending-with_cell, below_none, cell_of-with_cell, first_below, rest_ascends}
use Rattle.scene_kinds.proofs.Choices.{test_parts, less}
use Rattle.scene_kinds.proofs.Maps.{equal_keys}
use Rattle.scene_table.specs.CellWrites.{with_values}
use Rattle.scene_table.specs.Runs.{with_cells}
use Rattle.scene_table.specs.Steps.{Values}
use Rattle.scene_table.specs.Table.{row_with_cell}

pub with_cells-entity : (r : Row) (cells : List (ℕ × Cell)) → r.entity ≡ (with_cells r cells).entity
with_cells-entity r [] = refl
with_cells-entity r (c ∷ cells) = with_cells-entity (row_with_cell r c.0 c.1) cells

-- of cells that ascend, the row has each
pub cell_of-with_cells : (row : Row) (cells : List (ℕ × Cell)) (k : ℕ) → IsAscending cells → cell_of (with_cells row cells).cells k ≡ option_or (cell_of cells k) (cell_of row.cells k)
cell_of-with_cells row [] k up = refl
cell_of-with_cells row (c ∷ cells) k up =
    cell_of-with_cells (row_with_cell row c.0 c.1) cells k (rest_ascends c cells up)
    ∙ ap (option_or (cell_of cells k)) (cell_of-with_cell row.cells c.0 c.1 k)
    ∙ elim (eq_by_cmp nat_cmp k c.0) as (λ b. eq_by_cmp nat_cmp k c.0 ≡ b → option_or (cell_of cells k) (cond b (Some c.1) (cell_of row.cells k)) ≡ option_or (cond b (Some c.1) (cell_of cells k)) (cell_of row.cells k)) [
      | true ↦ λ t. ap (λ o. option_or o (Some c.1)) (ap (cell_of cells) (equal_keys nat_cmp-IsAntisymmetric k c.0 t) ∙ below_none c.0 cells (first_below c cells up))
      | false ↦ λ t. refl
    ] refl

pub ascending-with_cells : (row : Row) (cells : List (ℕ × Cell)) → IsAscending row.cells → IsAscending (with_cells row cells).cells
ascending-with_cells row [] up = up
ascending-with_cells row (c ∷ cells) up = ascending-with_cells (row_with_cell row c.0 c.1) cells (ascending-with_cell row.cells c.0 c.1 up)

-- ---- values

-- the cell of a kind where a value may be put over it
abbrev pub cell_or : ℕ → Option Value → Option Cell → Option Cell
cell_or tick None old = old
cell_or tick (Some value) old = Some (put_over old value tick)

no_value : (k : ℕ) (values : Values) → T (below_all nat_cmp k values) → find nat_cmp k values ≡ None
no_value k [] up = refl
no_value k (v ∷ values) up =
    let p = test_parts _ _ up in
    ap (λ r. cond (is_eq r) (Some v.1) (find nat_cmp k values)) (less _ p.0) ∙ no_value k values p.1

pub with_values-entity : (tick : ℕ) (row : Row) (values : Values) → row.entity ≡ (with_values tick row values).entity
with_values-entity tick row [] = refl
with_values-entity tick row (v ∷ values) = with_values-entity tick (row_with_cell row v.0 (put_over (cell_of row.cells v.0) v.1 tick)) values

pub ascending-with_values : (tick : ℕ) (row : Row) (values : Values) → IsAscending row.cells → IsAscending (with_values tick row values).cells
ascending-with_values tick row [] up = up
ascending-with_values tick row (v ∷ values) up =
    ascending-with_values tick (row_with_cell row v.0 (put_over (cell_of row.cells v.0) v.1 tick)) values (ascending-with_cell row.cells v.0 (put_over (cell_of row.cells v.0) v.1 tick) up)

-- of values that ascend, the row has each
pub cell_of-with_values : (tick : ℕ) (row : Row) (values : Values) (k : ℕ) → T (is_sorted nat_cmp values) → cell_of (with_values tick row values).cells k ≡ cell_or tick (find nat_cmp k values) (cell_of row.cells k)
cell_of-with_values tick row [] k up = refl
cell_of-with_values tick row (v ∷ values) k up =
    let p = test_parts _ _ up in
    let new = put_over (cell_of row.cells v.0) v.1 tick in
    cell_of-with_values tick (row_with_cell row v.0 new) values k p.1
    ∙ ap (cell_or tick (find nat_cmp k values)) (cell_of-with_cell row.cells v.0 new k)
    ∙ elim (eq_by_cmp nat_cmp k v.0) as (λ b. eq_by_cmp nat_cmp k v.0 ≡ b → cell_or tick (find nat_cmp k values) (cond b (Some new) (cell_of row.cells k)) ≡ cell_or tick (cond b (Some v.1) (find nat_cmp k values)) (cell_of row.cells k)) [
      | true ↦ λ t.
          let same = equal_keys nat_cmp-IsAntisymmetric k v.0 t in
          ap (λ o. cell_or tick o (Some new)) (ap (λ j. find nat_cmp j values) same ∙ no_value v.0 values p.0)
          ∙ ap (λ j. Some (put_over (cell_of row.cells j) v.1 tick)) (sym same)
      | false ↦ λ t. refl
    ] refl
