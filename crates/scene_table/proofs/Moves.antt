-- A row that goes to the table of one kind more, with a cell of that kind, or to that of one kind less, without it.
use Rattle.std.proofs.Common.{◌≡◌, ℕ, zero, suc, ◌+◌, ◌<◌, ◌≤◌, ◌^◌, true, false, cond, not, List, [], ◌∷◌, ◌++◌, length, get_or, take, drop, map, refl, ap, sym, ◌∙◌, arith, Option, Some, None, is_some, nat_eq, nat_lt}
use Rattle.std.specs.Prelude.{slice_get, insert, remove}
use Rattle.std.specs.List.{position_from}
use Rattle.std.specs.Option.{option_map}
use Rattle.std.specs.Ordering.{nat_cmp, eq_by_cmp}
use Rattle.std.specs.Cmp.Derive.{both_true}
use Rattle.std.proofs.Math.Pow.{pow_mono}
use Rattle.std.proofs.lemmas.Bool.Decides.{nat_tests}
use Rattle.std.proofs.lemmas.List.Edits.{length-insert, length-remove, insert_end}
use Rattle.std.proofs.lemmas.Option.{slice_get-get_or}
use Rattle.scene_kinds.specs.Cells.{HasKinds, AreKindsBelow, IsNext, GoesLast, IsPlaceOf, cell_of, with_cell, without_cell, mask_of}
use Rattle.scene_kinds.specs.KindSet.{has_kind, set_with, set_without}
use Rattle.scene_kinds.specs.declared.cell.Cell.{Cell}
use Rattle.scene_kinds.specs.declared.cells.Row.{Row}
use Rattle.scene_kinds.specs.declared.entity.Entity.{Entity}
use Rattle.scene_kinds.proofs.CellLaws.{ascending-with_cell, ascending-without_cell}
use Rattle.scene_kinds.proofs.KindSets.{has_kind-mask_of, mask_of-with_cell, mask_of-without_cell}
use Rattle.scene_kinds.proofs.Masks.{mask-cons}
use Rattle.scene_kinds.proofs.Next.{next_found, next_none}
use Rattle.scene_kinds.proofs.Places.{eq_by_cmp-nat_eq, none_placed, some_placed}
use Rattle.scene_kinds.proofs.Taken.{taken_placed}
use Rattle.scene_table.specs.Rows.{swap_out, put_back}
use Rattle.scene_table.specs.Columns.{ColumnState, IsTable, AreColumnsOf, out_of_column, rows_of, least, put_each, kinds_of, kinds_in}
use Rattle.scene_table.specs.Table.{row_with_cell, row_without_cell}
use Rattle.scene_table.proofs.ColumnLists.{length-cells_at}
use Rattle.scene_table.proofs.KindLists.{kinds_as_columns}
use Rattle.scene_table.proofs.TableFacts.{IsRowAt, same_position, same_count, out_back, put_back_lent, left_table, left_rows, left_least, left_room, came_table, came_rows, came_least}

-- a kind that stands among cells has a cell
kind_there : (cells : List (ℕ × Cell)) (kind n : ℕ) (d : ℕ × Cell) → n < length cells → (get_or cells n d).0 ≡ kind → cell_of cells kind ≡ None → ⊥
kind_there [] kind n d l e none = omega arith
kind_there (c ∷ cells) kind zero d l e none =
    let same : nat_eq kind c.0 ≡ true = grind (arith, nat_tests) in
    let found : Some c.1 ≡ None = ap (λ b. cond b (Some c.1) (cell_of cells kind)) (sym (eq_by_cmp-nat_eq kind c.0 ∙ same)) ∙ none in
    cc
kind_there (c ∷ cells) kind (suc n) d l e none =
    elim (eq_by_cmp nat_cmp kind c.0) as (λ b. cond b (Some c.1) (cell_of cells kind) ≡ None → ⊥) [
      | true ↦ λ g. let found : Some c.1 ≡ None = g in cc
      | false ↦ λ g. kind_there cells kind n d (omega arith) e g
    ] none

-- where the search for a higher kind ends, a cell of the kind goes
pub goes_at : (kind : ℕ) (columns : List ColumnState) (n : ℕ) → Some n ≡ position_from (λ (c : ColumnState). not (nat_lt c.kind kind)) 0 columns →
    (cells : List (ℕ × Cell)) (cell : Cell) → kinds_in cells ≡ kinds_of columns → cell_of cells kind ≡ None → insert cells n (kind, cell) ≡ with_cell cells kind cell
goes_at kind columns n is cells cell same none =
    let next : IsNext kind cells n = next_found kind cells (Some n) (is ∙ sym (same_position (λ k. not (nat_lt k kind)) 0 cells columns same)) in
    next.other (0, cell) cell (λ e. kind_there cells kind n (0, cell) next.within e none)

-- where it finds none, the cell goes last
pub goes_last : (kind : ℕ) (columns : List ColumnState) (n : ℕ) → n ≡ length columns → None ≡ position_from (λ (c : ColumnState). not (nat_lt c.kind kind)) 0 columns →
    (cells : List (ℕ × Cell)) (cell : Cell) → kinds_in cells ≡ kinds_of columns → insert cells n (kind, cell) ≡ with_cell cells kind cell
goes_last kind columns n last is cells cell same =
    let goes : GoesLast kind cells = next_none kind cells None (is ∙ sym (same_position (λ k. not (nat_lt k kind)) 0 cells columns same)) in
    ap (λ k. insert cells k (kind, cell)) (last ∙ sym (same_count cells columns same)) ∙ insert_end cells (kind, cell) ∙ goes cell

-- what a row that moves brings to a table of one kind more
pub record IsGained (columns target : List ColumnState) (n kind : ℕ) (cell : Cell) (row : Row) : Type 0 where
  pub inserted : insert row.cells n (kind, cell) ≡ with_cell row.cells kind cell
  pub kinds : kinds_in (with_cell row.cells kind cell) ≡ kinds_of target
  pub count : length target ≡ length columns + 1

-- a kind that a set lacks has no cell in its rows
lacks_cell : (mask kind : ℕ) (row : Row) → HasKinds mask row → has_kind mask kind ≡ false → cell_of row.cells kind ≡ None
lacks_cell mask kind row has lacks = none (cell_of row.cells kind) (sym (has_kind-mask_of row.cells kind has.ascending) ∙ ap (λ m. has_kind m kind) has.kinds ∙ lacks)
  where
    none : (o : Option Cell) → is_some o ≡ false → o ≡ None
    none None e = refl
    none (Some c) e = absurd (let g : true ≡ false = e in cc)

pub is_gained : (mask more kind n : ℕ) (cell : Cell) (entities : List Entity) (columns target : List ColumnState) (at : ℕ) (row : Row) → IsRowAt entities columns at row → HasKinds mask row → has_kind mask kind ≡ false →
    more ≡ set_with mask kind → AreColumnsOf more target → n ≤ length columns →
    ((cells : List (ℕ × Cell)) (cell : Cell) → kinds_in cells ≡ kinds_of columns → cell_of cells kind ≡ None → insert cells n (kind, cell) ≡ with_cell cells kind cell) → IsGained columns target n kind cell row
is_gained mask more kind n cell entities columns target at row there has lacks is are low goes =
    let inserted = goes row.cells cell there.kinds (lacks_cell mask kind row has lacks) in
    let new : HasKinds more (row_with_cell row kind cell) = record {
      ascending = ascending-with_cell row.cells kind cell has.ascending;
      kinds = mask_of-with_cell row.cells kind cell has.ascending ∙ ap (λ m. set_with m kind) has.kinds ∙ sym is;
    } in
    let kinds = kinds_as_columns more (row_with_cell row kind cell) target are new in
    let had = length-cells_at columns at row.cells there.cells_stand in
    record {
      inserted = inserted;
      kinds = kinds;
      count = omega (arith, had, length-insert row.cells n (kind, cell) (omega (arith, had)), ap length inserted, same_count (with_cell row.cells kind cell) target kinds);
    }

-- what a row that moves brings to a table of one kind less
pub record IsLost (columns target : List ColumnState) (n kind : ℕ) (row : Row) : Type 0 where
  pub removed : remove row.cells n ≡ without_cell row.cells kind
  pub kinds : kinds_in (without_cell row.cells kind) ≡ kinds_of target
  pub count : length columns ≡ length target + 1
  pub within : n < length columns
  pub found : (cell : Cell) → option_map (λ (c : ℕ × Cell). c.1) (slice_get row.cells n) ≡ Some cell → cell_of row.cells kind ≡ Some cell

-- cells with a set of 64 bits have kinds below 64
low_kinds : (cells : List (ℕ × Cell)) → mask_of cells < 2 ^ 64 → AreKindsBelow 64 cells
low_kinds [] l = refl
low_kinds (c ∷ cells) l =
    let sum = mask-cons c cells in
    both_true (low c.0 (omega (arith, sum))) (low_kinds cells (omega (arith, sum)))
  where
    low : (k : ℕ) → 2 ^ k < 2 ^ 64 → nat_lt k 64 ≡ true
    low k m = elim (nat_lt k 64) as (λ b. nat_lt k 64 ≡ b → b ≡ true) [
      | true ↦ λ _. refl
      | false ↦ λ t. let high : 64 ≤ k = grind (arith, nat_tests) in absurd (omega (arith, pow_mono high))
    ] refl

pub is_lost : (mask less kind n : ℕ) (entities : List Entity) (columns target : List ColumnState) (at : ℕ) (row : Row) → IsRowAt entities columns at row → HasKinds mask row → mask < 2 ^ 64 → kind < 64 →
    less ≡ set_without mask kind → AreColumnsOf less target → Some n ≡ position_from (λ (c : ColumnState). nat_eq kind c.kind) 0 columns → IsLost columns target n kind row
is_lost mask less kind n entities columns target at row there has fits low is are found =
    let search_is = found ∙ sym (same_position (λ k. nat_eq kind k) 0 row.cells columns there.kinds) in
    let place : IsPlaceOf row.cells kind n = some_placed kind row.cells (Some n) search_is in
    let removed : remove row.cells n ≡ without_cell row.cells kind = taken_placed kind row.cells (Some n) search_is has.ascending in
    let new : HasKinds less (row_without_cell row kind) = record {
      ascending = ascending-without_cell row.cells kind has.ascending;
      kinds = mask_of-without_cell row.cells kind has.ascending (low_kinds row.cells (omega (arith, has.kinds))) low ∙ ap (λ m. set_without m kind) has.kinds ∙ sym is;
    } in
    let kinds = kinds_as_columns less (row_without_cell row kind) target are new in
    let had = length-cells_at columns at row.cells there.cells_stand in
    record {
      removed = removed;
      kinds = kinds;
      count = omega (arith, had, length-remove row.cells n place.within, ap length removed, same_count (without_cell row.cells kind) target kinds);
      within = omega (arith, had, place.within);
      found = λ cell e. place.found (0, cell) ∙ ap (option_map (λ (c : ℕ × Cell). c.1)) (sym (slice_get-get_or row.cells n (0, cell) place.within)) ∙ e;
    }

-- a kind of a set has a column once there are rows
pub has_column : (mask kind : ℕ) (entities : List Entity) (columns : List ColumnState) (at : ℕ) (row : Row) → IsRowAt entities columns at row → HasKinds mask row → has_kind mask kind ≡ true →
    None ≡ position_from (λ (c : ColumnState). nat_eq kind c.kind) 0 columns → ⊥
has_column mask kind entities columns at row there has is missed =
    let none = none_placed kind row.cells None (missed ∙ sym (same_position (λ k. nat_eq kind k) 0 row.cells columns there.kinds)) in
    let g : true ≡ false = sym is ∙ ap (λ m. has_kind m kind) (sym has.kinds) ∙ has_kind-mask_of row.cells kind has.ascending ∙ ap is_some none in
    cc

-- what holds of a table after a row left, once its columns that were lent are back
pub record HasLeft (mask at : ℕ) (rows : List Row) (room : ℕ) (entities : List Entity) (capacity : ℕ) (columns : List ColumnState) : Type 0 where
  pub table : IsTable mask entities capacity columns
  pub rows_are : rows_of entities columns ≡ swap_out rows at
  pub room_is : least capacity columns ≡ room
  pub behind : length (rows_of entities columns) < least capacity columns

pub has_left : (mask capacity at count : ℕ) (entities : List Entity) (columns lent new : List ColumnState) → IsTable mask entities capacity columns → at < length entities → count ≡ length columns → lent ≡ columns → new ≡ map (out_of_column at) lent →
    (less : List Entity) (same : ℕ) → less ≡ swap_out entities at → same ≡ capacity → HasLeft mask at (rows_of entities columns) (least capacity columns) less same (take count (new ++ drop (length new) columns))
has_left mask capacity at count entities columns lent new is within all back done less same e f =
    let g = out_back count at columns lent new all back done in
    record {
      table = left_table mask capacity at entities columns is within less same _ e f g;
      rows_are = left_rows mask capacity at entities columns is within less same _ e f g;
      room_is = left_least mask capacity at entities columns is within less same _ e f g;
      behind = left_room mask capacity at entities columns is within less same _ e f g;
    }

-- and after a row came
pub record HasCome (mask at : ℕ) (row : Row) (rows : List Row) (room : ℕ) (entities : List Entity) (capacity : ℕ) (columns : List ColumnState) : Type 0 where
  pub table : IsTable mask entities capacity columns
  pub rows_are : rows_of entities columns ≡ put_back rows at row
  pub room_is : least capacity columns ≡ room

pub has_come : (mask capacity at count : ℕ) (entities : List Entity) (columns lent new : List ColumnState) → IsTable mask entities capacity columns → length entities < least capacity columns → (row : Row) → kinds_in row.cells ≡ kinds_of columns → count ≡ length columns → lent ≡ columns →
    new ≡ put_each at row.cells lent → (more : List Entity) (same : ℕ) → more ≡ put_back entities at row.entity → same ≡ capacity →
    HasCome mask at row (rows_of entities columns) (least capacity columns) more same (take count (new ++ drop (length new) columns))
has_come mask capacity at count entities columns lent new is room row kinds all back done more same e f =
    let g = put_back_lent count at row.cells columns lent new all (same_count row.cells columns kinds) back done in
    record {
      table = came_table mask capacity at entities columns is room row.entity row.cells kinds more same _ e f g;
      rows_are = came_rows mask capacity at entities columns is room row.entity row.cells kinds more same _ e f g;
      room_is = came_least mask capacity at entities columns is room row.entity row.cells kinds more same _ e f g;
    }
