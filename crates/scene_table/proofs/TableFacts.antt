-- What holds of the fields of a table, and stays when a row is read, leaves, or comes.
use Rattle.std.proofs.Common.{◌≡◌, ℕ, zero, suc, ◌+◌, ◌<◌, ◌≤◌, Bool, true, false, cond, List, [], ◌∷◌, ◌++◌, length, get_or, take, drop, map, min, refl, ap, subst, sym, ◌∙◌, arith, Option, Some, None, nat_eq}
use Rattle.std.specs.Prelude.{slice_get, slice_set, is_some}
use Rattle.std.specs.List.{AllZip, position_from}
use Rattle.std.specs.Option.{option_map, option_flatten, unwrap_or}
use Rattle.std.proofs.lemmas.Option.{slice_get-get_or}
use Rattle.std.proofs.lemmas.List.{append-nil, drop_all, take_all, length-set}
use Rattle.std.proofs.lemmas.List.Elements.{All-set}
use Rattle.std.proofs.lemmas.Bool.{eqb-true}
use Rattle.scene_kinds.proofs.Positions.{found as found_at}
use Rattle.scene_kinds.specs.Cells.{HasKinds, cell_of, IsPlaceOf}
use Rattle.scene_kinds.specs.declared.value.Value.TheVariants.{Tag}
use Rattle.scene_kinds.specs.declared.cell.Cell.{Cell}
use Rattle.scene_kinds.specs.declared.cells.Row.{Row}
use Rattle.scene_kinds.specs.declared.entity.Entity.{Entity}
use Rattle.scene_kinds.specs.KindSet.{has_kind}
use Rattle.scene_kinds.proofs.KindSets.{has_kind-mask_of}
use Rattle.scene_kinds.proofs.Places.{none_placed, some_placed, put_at_place}
use Rattle.scene_table.specs.Rows.{swap_out, put_back}
use Rattle.scene_table.specs.Columns.{ColumnState, zip_with, with_first, rows_of, least, out_of_column, put_each, kinds_of, kinds_in, AreCellsAt, AreLong, AreColumnsOf, IsSameColumn, IsGrown, HasRoomAt, IsTable}
use Rattle.scene_table.specs.Table.{AllHave, cell_at, row_with_cell, rows_with_cell}
use Rattle.scene_table.proofs.Swaps.{length-swap_out, length-put_back}
use Rattle.scene_table.proofs.ColumnLists.{cell_read, length-cells_at, length-put_each}
use Rattle.scene_table.proofs.TableRows.{length-rows_of, row_parts, row_kinds, rows_out, rows_back, rows_set, rest_long, first_long}

-- each row has just the table's kinds
pub all_have : (mask : ℕ) (entities : List Entity) (capacity : ℕ) (columns : List ColumnState) → IsTable mask entities capacity columns → length entities ≤ capacity → AllHave mask (rows_of entities columns)
all_have mask entities capacity columns is fits k d l =
    let some : 0 < capacity = omega (arith, length-rows_of entities columns is.long) in
    is.kinds some (get_or (rows_of entities columns) k d) (row_kinds entities columns k d l)

-- the cells at a place have the kinds of their columns
pub cells_kinds : (columns : List ColumnState) (at : ℕ) (cells : List (ℕ × Cell)) → AreCellsAt columns at cells → kinds_in cells ≡ kinds_of columns
cells_kinds [] at [] are = refl
cells_kinds [] at (cell ∷ cells) are = cc
cells_kinds (column ∷ columns) at [] are = cc
cells_kinds (column ∷ columns) at (cell ∷ cells) are =
    λ i. first (slice_get column.cells at) (ap (λ t. get_or t 0 None) are) i ∷ cells_kinds columns at cells (ap (λ t. drop 1 t) are) i
  where
    first : (o : Option Cell) → option_map (λ (c : Cell). (column.kind, c)) o ≡ Some cell → cell.0 ≡ column.kind
    first None h = absurd (let g : None ≡ Some cell = h in cc)
    first (Some c) h = let e : (column.kind, c) ≡ cell = cc in ap (λ (x : ℕ × Cell). x.0) (sym e)

-- a search among the kinds of cells ends where it does among those of their columns
pub same_position : (test : ℕ → Bool) (n : ℕ) (cells : List (ℕ × Cell)) (columns : List ColumnState) → kinds_in cells ≡ kinds_of columns →
    position_from (λ (e : ℕ × Cell). test e.0) n cells ≡ position_from (λ (c : ColumnState). test c.kind) n columns
same_position test n [] [] e = refl
same_position test n [] (column ∷ columns) e = cc
same_position test n (cell ∷ cells) [] e = cc
same_position test n (cell ∷ cells) (column ∷ columns) e =
    λ i. cond (test (get_or (e i) 0 0)) (Some n) (same_position test (n + 1) cells columns (ap (λ ks. drop 1 ks) e) i)

-- the row at a place, with its entity and its cells
pub record IsRowAt (entities : List Entity) (columns : List ColumnState) (at : ℕ) (row : Row) : Type 0 where
  pub stands : slice_get (rows_of entities columns) at ≡ Some row
  pub entity_stands : slice_get entities at ≡ Some row.entity
  pub cells_stand : AreCellsAt columns at row.cells
  pub kinds : kinds_in row.cells ≡ kinds_of columns

pub is_row_at : (entities : List Entity) (columns : List ColumnState) (at : ℕ) (row : Row) → slice_get (rows_of entities columns) at ≡ Some row → IsRowAt entities columns at row
is_row_at entities columns at row is =
    let p = row_parts entities columns at row is in
    record { stands = is; entity_stands = p.0; cells_stand = p.1; kinds = cells_kinds columns at row.cells p.1 }

pub row_there : (entities : List Entity) (columns : List ColumnState) (at : ℕ) → AreLong (length entities) columns → at < length entities → (row : Row) × IsRowAt entities columns at row
row_there entities columns at long l = from (rows_of entities columns) refl
  where
    from : (rows : List Row) → rows ≡ rows_of entities columns → (row : Row) × IsRowAt entities columns at row
    from [] e = absurd (omega (arith, ap length e, length-rows_of entities columns long))
    from (r ∷ rows) e =
        let row = get_or (rows_of entities columns) at r in
        (row, is_row_at entities columns at row (slice_get-get_or (rows_of entities columns) at r (omega (arith, length-rows_of entities columns long))))

-- the cell of a kind at a place, in the column of the kind
pub cell_found : (entities : List Entity) (columns : List ColumnState) (at kind n : ℕ) (d : ColumnState) → AreLong (length entities) columns → at < length entities →
    Some n ≡ position_from (λ (c : ColumnState). nat_eq kind c.kind) 0 columns → (n < length columns) × (cell_at (rows_of entities columns) at kind ≡ slice_get (get_or columns n d).cells at)
cell_found entities columns at kind n d long l is =
    let there = row_there entities columns at long l in
    let row = there.0 in
    let place : IsPlaceOf row.cells kind n = some_placed kind row.cells (Some n) (is ∙ sym (same_position (λ k. nat_eq kind k) 0 row.cells columns there.1.kinds)) in
    let blank : ℕ × Cell = (0, record { value = Tag; added = 0; changed = 0 }) in
    let within : n < length columns = omega (arith, place.within, length-cells_at columns at row.cells there.1.cells_stand) in (
      within,
      ap (λ o. option_flatten (option_map (λ (row : Row). cell_of row.cells kind) o)) there.1.stands
          ∙ place.found blank ∙ sym (cell_read columns at row.cells n d blank there.1.cells_stand within),
    )

pub cell_missed : (entities : List Entity) (columns : List ColumnState) (at kind : ℕ) → AreLong (length entities) columns → at < length entities →
    None ≡ position_from (λ (c : ColumnState). nat_eq kind c.kind) 0 columns → cell_at (rows_of entities columns) at kind ≡ None
cell_missed entities columns at kind long l is =
    let there = row_there entities columns at long l in
    ap (λ o. option_flatten (option_map (λ (row : Row). cell_of row.cells kind) o)) there.1.stands
    ∙ none_placed kind there.0.cells None (is ∙ sym (same_position (λ k. nat_eq kind k) 0 there.0.cells columns there.1.kinds))

-- the least over columns is at most that of each
pub least_at : (capacity : ℕ) (columns : List ColumnState) (k : ℕ) (d : ColumnState) → k < length columns → least capacity columns ≤ (get_or columns k d).capacity
least_at capacity [] k d l = absurd (omega arith)
least_at capacity (column ∷ columns) zero d l = omega arith
least_at capacity (column ∷ columns) (suc k) d l = omega (arith, least_at capacity columns k d (omega arith))

pub least_first : (capacity : ℕ) (columns : List ColumnState) → least capacity columns ≤ capacity
least_first capacity [] = omega arith
least_first capacity (column ∷ columns) = omega (arith, least_first capacity columns)

-- what is at most each is at most the least
pub least_above : (bound capacity : ℕ) (columns : List ColumnState) → bound ≤ capacity → ((k : ℕ) (d : ColumnState) → k < length columns → bound ≤ (get_or columns k d).capacity) → bound ≤ least capacity columns
least_above bound capacity [] l all = l
least_above bound capacity (column ∷ columns) l all = omega (arith, all 0 column (omega arith), least_above bound capacity columns l (λ k d m. all (suc k) d (omega arith)))

pub least_grown : (a b : ℕ) (old new : List ColumnState) → a ≤ b → AllZip IsGrown old new → least a old ≤ least b new
least_grown a b [] [] l all = l
least_grown a b [] (n ∷ new) l all = absurd all
least_grown a b (o ∷ old) [] l all = absurd all
least_grown a b (o ∷ old) (n ∷ new) l all = omega (arith, all.0.wide, least_grown a b old new l all.1)

pub least_out : (capacity at : ℕ) (columns : List ColumnState) → least capacity (map (out_of_column at) columns) ≡ least capacity columns
least_out capacity at [] = refl
least_out capacity at (column ∷ columns) = ap (min column.capacity) (least_out capacity at columns)

pub least_back : (capacity at : ℕ) (cells : List (ℕ × Cell)) (columns : List ColumnState) → length cells ≡ length columns → least capacity (put_each at cells columns) ≡ least capacity columns
least_back capacity at [] columns e = refl
least_back capacity at (cell ∷ cells) [] e = absurd (omega arith)
least_back capacity at (cell ∷ cells) (column ∷ columns) e = ap (min column.capacity) (least_back capacity at cells columns (omega arith))

pub least_set : (capacity n : ℕ) (columns : List ColumnState) (d : ColumnState) (cells : List Cell) → least capacity (slice_set columns n (record (get_or columns n d) { cells = cells })) ≡ least capacity columns
least_set capacity n [] d cells = refl
least_set capacity zero (column ∷ columns) d cells = refl
least_set capacity (suc n) (column ∷ columns) d cells = ap (min column.capacity) (least_set capacity n columns d cells)

-- the kinds of columns stay
pub kinds_out : (at : ℕ) (columns : List ColumnState) → kinds_of (map (out_of_column at) columns) ≡ kinds_of columns
kinds_out at [] = refl
kinds_out at (column ∷ columns) = ap (λ ks. column.kind ∷ ks) (kinds_out at columns)

pub kinds_back : (at : ℕ) (cells : List (ℕ × Cell)) (columns : List ColumnState) → length cells ≡ length columns → kinds_of (put_each at cells columns) ≡ kinds_of columns
kinds_back at [] columns e = refl
kinds_back at (cell ∷ cells) [] e = absurd (omega arith)
kinds_back at (cell ∷ cells) (column ∷ columns) e = ap (λ ks. column.kind ∷ ks) (kinds_back at cells columns (omega arith))

pub kinds_set : (n : ℕ) (columns : List ColumnState) (d : ColumnState) (cells : List Cell) → kinds_of (slice_set columns n (record (get_or columns n d) { cells = cells })) ≡ kinds_of columns
kinds_set n [] d cells = refl
kinds_set zero (column ∷ columns) d cells = refl
kinds_set (suc n) (column ∷ columns) d cells = ap (λ ks. column.kind ∷ ks) (kinds_set n columns d cells)

-- and so do their lengths
long_out : (n at : ℕ) (columns : List ColumnState) → AreLong (n + 1) columns → at < n + 1 → AreLong n (map (out_of_column at) columns)
long_out n at [] long l k d m = absurd (omega arith)
long_out n at (column ∷ columns) long l zero d m = omega (arith, length-swap_out column.cells at (omega (arith, first_long (n + 1) column columns long)), first_long (n + 1) column columns long)
long_out n at (column ∷ columns) long l (suc k) d m = long_out n at columns (rest_long (n + 1) column columns long) l k d (omega arith)

long_back : (n at : ℕ) (cells : List (ℕ × Cell)) (columns : List ColumnState) → AreLong n columns → length cells ≡ length columns → AreLong (n + 1) (put_each at cells columns)
long_back n at [] [] long e k d m = absurd (omega arith)
long_back n at [] (column ∷ columns) long e k d m = absurd (omega arith)
long_back n at (cell ∷ cells) [] long e k d m = absurd (omega arith)
long_back n at (cell ∷ cells) (column ∷ columns) long e zero d m = omega (arith, length-put_back column.cells at cell.1, first_long n column columns long)
long_back n at (cell ∷ cells) (column ∷ columns) long e (suc k) d m = long_back n at cells columns (rest_long n column columns long) (omega arith) k d (omega arith)

-- a table after a row left
pub table_out : (mask : ℕ) (entities : List Entity) (capacity at : ℕ) (columns : List ColumnState) → IsTable mask entities capacity columns → at < length entities →
    IsTable mask (swap_out entities at) capacity (map (out_of_column at) columns)
table_out mask entities capacity at columns is l =
    let count = length-swap_out entities at l in
    record {
      long = long_out (length (swap_out entities at)) at columns (subst (λ n. AreLong n columns) (sym count) is.long) (omega (arith, count));
      kinds = λ some row e. is.kinds some row (e ∙ kinds_out at columns);
      fits = omega (arith, is.fits, count, least_out capacity at columns);
    }

-- a table after a row came
pub table_back : (mask : ℕ) (entities : List Entity) (capacity at : ℕ) (columns : List ColumnState) (entity : Entity) (cells : List (ℕ × Cell)) → IsTable mask entities capacity columns → length entities < least capacity columns → length cells ≡ length columns →
    IsTable mask (put_back entities at entity) capacity (put_each at cells columns)
table_back mask entities capacity at columns entity cells is room e =
    let count = length-put_back entities at entity in
    record {
      long = subst (λ n. AreLong n (put_each at cells columns)) (sym count) (long_back (length entities) at cells columns is.long e);
      kinds = λ some row f. is.kinds some row (f ∙ kinds_back at cells columns e);
      fits = omega (arith, room, count, least_back capacity at cells columns e);
    }

-- the columns have room where the table does
pub room_each : (entities : List Entity) (capacity at : ℕ) (columns : List ColumnState) → AreLong (length entities) columns → at ≤ length entities → length entities < least capacity columns →
    (k : ℕ) (d : ColumnState) → k < length columns → HasRoomAt at (get_or columns k d)
room_each entities capacity at columns long l room k d m = record { within = omega (arith, long k d m); room = omega (arith, long k d m, least_at capacity columns k d m) }

pub within_each : (entities : List Entity) (at : ℕ) (columns : List ColumnState) → AreLong (length entities) columns → at < length entities → (k : ℕ) (d : ColumnState) → k < length columns → at < length (get_or columns k d).cells
within_each entities at columns long l k d m = omega (arith, long k d m)

-- as many cells as columns of their kinds
pub same_count : (cells : List (ℕ × Cell)) (columns : List ColumnState) → kinds_in cells ≡ kinds_of columns → length cells ≡ length columns
same_count [] [] e = refl
same_count [] (column ∷ columns) e = cc
same_count (cell ∷ cells) [] e = cc
same_count (cell ∷ cells) (column ∷ columns) e = ap (λ n. suc n) (same_count cells columns (ap (λ ks. drop 1 ks) e))

-- columns that were lent and come back
pub written_back : (count : ℕ) (new old : List ColumnState) → count ≡ length old → length new ≡ length old → take count (new ++ drop (length new) old) ≡ new
written_back count new old e f =
    ap (λ t. take count (new ++ t)) (drop_all (length new) old (omega arith)) ∙ ap (take count) (append-nil new) ∙ take_all count new (omega arith)

pub length-out : (at : ℕ) (columns : List ColumnState) → length (map (out_of_column at) columns) ≡ length columns
length-out at [] = refl
length-out at (column ∷ columns) = ap (λ n. suc n) (length-out at columns)

-- an entity that is read
pub entity_read : (entities : List Entity) (columns : List ColumnState) (at : ℕ) (entity : Entity) → AreLong (length entities) columns → at < length entities → slice_get entities at ≡ Some entity →
    option_map (λ (row : Row). row.entity) (slice_get (rows_of entities columns) at) ≡ Some entity
entity_read entities columns at entity long l is =
    let there = row_there entities columns at long l in
    ap (option_map (λ (row : Row). row.entity)) there.1.stands ∙ sym there.1.entity_stands ∙ is

-- no entities, no rows
pub no_rows : (columns : List ColumnState) → AreLong 0 columns → rows_of [] columns ≡ []
no_rows columns long = none (rows_of [] columns) (length-rows_of [] columns long)
  where
    none : (rows : List Row) → length rows ≡ 0 → rows ≡ []
    none [] e = refl
    none (r ∷ rows) e = absurd (omega arith)

-- the columns of a table after a row left them while they were lent
pub out_back : (count at : ℕ) (columns lent left : List ColumnState) → count ≡ length columns → lent ≡ columns → left ≡ map (out_of_column at) lent → take count (left ++ drop (length left) columns) ≡ map (out_of_column at) columns
out_back count at columns lent left e is done =
    let same : left ≡ map (out_of_column at) columns = done ∙ ap (map (out_of_column at)) is in
    written_back count left columns e (ap length same ∙ length-out at columns) ∙ same

-- and after a row came
pub put_back_lent : (count at : ℕ) (cells : List (ℕ × Cell)) (columns lent new : List ColumnState) → count ≡ length columns → length cells ≡ length columns → lent ≡ columns → new ≡ put_each at cells lent →
    take count (new ++ drop (length new) columns) ≡ put_each at cells columns
put_back_lent count at cells columns lent new e f is done =
    let same : new ≡ put_each at cells columns = done ∙ ap (put_each at cells) is in
    written_back count new columns e (ap length same ∙ length-put_each at cells columns (omega arith)) ∙ same

module _ (mask capacity at : ℕ) (entities : List Entity) (columns : List ColumnState) (is : IsTable mask entities capacity columns) (within : at < length entities) (left : List Entity) (same : ℕ) (others : List ColumnState)
    (e : left ≡ swap_out entities at) (f : same ≡ capacity) (g : others ≡ map (out_of_column at) columns) where
  -- what holds after a row left
  pub left_table : IsTable mask left same others
  left_table =
      subst (λ (t : List Entity). IsTable mask t same others) (sym e) (subst (λ (n : ℕ). IsTable mask (swap_out entities at) n others) (sym f)
      (subst (λ (t : List ColumnState). IsTable mask (swap_out entities at) capacity t) (sym g) (table_out mask entities capacity at columns is within)))

  pub left_rows : rows_of left others ≡ swap_out (rows_of entities columns) at
  left_rows = (λ i. rows_of (e i) (g i)) ∙ rows_out entities columns at is.long

  pub left_least : least same others ≡ least capacity columns
  left_least = (λ i. least (f i) (g i)) ∙ least_out capacity at columns

  -- the room of the row stays behind
  pub left_room : length (rows_of left others) < least same others
  left_room =
      let count = length-rows_of entities columns is.long in
      omega (arith, is.fits, ap length left_rows, left_least, count, length-swap_out (rows_of entities columns) at (omega (arith, within, count)))

module _ (mask capacity at : ℕ) (entities : List Entity) (columns : List ColumnState) (is : IsTable mask entities capacity columns) (room : length entities < least capacity columns) (entity : Entity) (cells : List (ℕ × Cell)) (kinds : kinds_in cells ≡ kinds_of columns) (more : List Entity) (same : ℕ) (others : List ColumnState)
    (e : more ≡ put_back entities at entity) (f : same ≡ capacity) (g : others ≡ put_each at cells columns) where
  -- what holds after a row came
  pub came_table : IsTable mask more same others
  came_table =
      subst (λ (t : List Entity). IsTable mask t same others) (sym e) (subst (λ (n : ℕ). IsTable mask (put_back entities at entity) n others) (sym f)
      (subst (λ (t : List ColumnState). IsTable mask (put_back entities at entity) capacity t) (sym g) (table_back mask entities capacity at columns entity cells is room (same_count cells columns kinds))))

  pub came_rows : rows_of more others ≡ put_back (rows_of entities columns) at (record { entity = entity; cells = cells })
  came_rows = (λ i. rows_of (e i) (g i)) ∙ rows_back entities columns at entity cells is.long kinds

  pub came_least : least same others ≡ least capacity columns
  came_least = (λ i. least (f i) (g i)) ∙ least_back capacity at cells columns (same_count cells columns kinds)

module _ (mask capacity at kind n : ℕ) (entities : List Entity) (columns : List ColumnState) (d new : ColumnState) (cell : Cell) (is : IsTable mask entities capacity columns) (within : at < length entities)
    (fits : length entities ≤ capacity) (found : Some n ≡ position_from (λ (c : ColumnState). nat_eq kind c.kind) 0 columns) (e : new ≡ record (get_or columns n d) { cells = slice_set (get_or columns n d).cells at cell }) where
  -- what holds after a cell was written
  set_within : n < length columns
  set_within = (cell_found entities columns at kind n d is.long within found).0

  pub set_least : least capacity (slice_set columns n new) ≡ least capacity columns
  set_least = ap (λ t. least capacity (slice_set columns n t)) e ∙ least_set capacity n columns d (slice_set (get_or columns n d).cells at cell)

  pub set_table : IsTable mask entities capacity (slice_set columns n new)
  set_table = record {
    long = All-set (λ (c : ColumnState). length c.cells ≡ length entities) columns n new (ap (λ (c : ColumnState). length c.cells) e ∙ length-set (get_or columns n d).cells at cell ∙ is.long n d set_within) is.long;
    kinds = λ some row f. is.kinds some row (f ∙ ap (λ t. kinds_of (slice_set columns n t)) e ∙ kinds_set n columns d (slice_set (get_or columns n d).cells at cell));
    fits = omega (arith, is.fits, set_least);
  }

  pub set_rows : rows_of entities (slice_set columns n new) ≡ rows_with_cell (rows_of entities columns) at kind cell
  set_rows =
      let there = row_there entities columns at is.long within in
      let row = there.0 in
      let place : IsPlaceOf row.cells kind n = some_placed kind row.cells (Some n) (found ∙ sym (same_position (λ k. nat_eq kind k) 0 row.cells columns there.1.kinds)) in
      let has : HasKinds mask row = is.kinds (omega arith) row there.1.kinds in
      let key : (get_or columns n d).kind ≡ kind = kind_at columns n d (sym found) in
      let old : ℕ × Cell = (0, cell) in
      ap (λ t. rows_of entities (slice_set columns n t)) e
      ∙ rows_set entities columns at n d row.entity row.cells cell is.long there.1.entity_stands there.1.cells_stand set_within
      ∙ ap (λ (k : ℕ). slice_set (rows_of entities columns) at (record row { cells = slice_set row.cells n (k, cell) })) (key ∙ sym (place.key old))
      ∙ ap (λ (cells : List (ℕ × Cell)). slice_set (rows_of entities columns) at (record row { cells = cells })) (put_at_place row.cells kind n cell old has.ascending place.within (place.key old))
      ∙ ap (λ o. unwrap_or (option_map (λ (r : Row). slice_set (rows_of entities columns) at (row_with_cell r kind cell)) o) (rows_of entities columns)) (sym there.1.stands)
    where
      kind_at : (cs : List ColumnState) (k : ℕ) (b : ColumnState) → position_from (λ (c : ColumnState). nat_eq kind c.kind) 0 cs ≡ Some k → (get_or cs k b).kind ≡ kind
      kind_at cs k b h = found_at (λ (c : ColumnState). nat_eq kind c.kind) (λ xs j. (get_or xs j b).kind ≡ kind) (λ x xs t. sym (eqb-true kind x.kind t)) (λ x xs j t p. p) cs k h

-- a column that a search finds is there
pub number_within : (test : ColumnState → Bool) (columns : List ColumnState) (n : ℕ) → position_from test 0 columns ≡ Some n → n < length columns
number_within test columns n h = found_at test (λ cs k. k < length cs) (λ c cs t. omega arith) (λ c cs k t p. omega arith) columns n h

-- where the columns of a table lack a kind of its set, there are no rows
pub rows_lack : (mask : ℕ) (entities : List Entity) (capacity : ℕ) (columns : List ColumnState) (kind : ℕ) → IsTable mask entities capacity columns → length entities ≤ capacity → has_kind mask kind ≡ true →
    None ≡ position_from (λ (c : ColumnState). nat_eq kind c.kind) 0 columns → rows_of entities columns ≡ []
rows_lack mask entities capacity columns kind is fits has none = from (rows_of entities columns) refl
  where
    from : (rows : List Row) → rows ≡ rows_of entities columns → rows_of entities columns ≡ []
    from [] e = sym e
    from (r ∷ rows) e =
        let there = row_there entities columns 0 is.long (omega (arith, ap length e, length-rows_of entities columns is.long)) in
        let row = there.0 in
        let some : 0 < capacity = omega (arith, ap length e, length-rows_of entities columns is.long) in
        let kinds : HasKinds mask row = is.kinds some row there.1.kinds in
        let lacks = none_placed kind row.cells None (none ∙ sym (same_position (λ k. nat_eq kind k) 0 row.cells columns there.1.kinds)) in
        let g : true ≡ false = sym has ∙ ap (λ m. has_kind m kind) (sym kinds.kinds) ∙ has_kind-mask_of row.cells kind kinds.ascending ∙ ap is_some lacks in
        absurd cc

-- the cell of a number at a place
pub cell_numbered : (columns : List ColumnState) (at : ℕ) (cells : List (ℕ × Cell)) (n : ℕ) (d : ColumnState) (cell : Cell) → AreCellsAt columns at cells → n < length columns → slice_get (get_or columns n d).cells at ≡ Some cell →
    slice_get cells n ≡ Some ((get_or columns n d).kind, cell)
cell_numbered [] at cells n d cell are l is = absurd (omega arith)
cell_numbered (column ∷ columns) at [] n d cell are l is = cc
cell_numbered (column ∷ columns) at (c ∷ cells) zero d cell are l is = sym (ap (λ t. get_or t 0 None) are) ∙ ap (option_map (λ (x : Cell). (column.kind, x))) is
cell_numbered (column ∷ columns) at (c ∷ cells) (suc n) d cell are l is = cell_numbered columns at cells n d cell (ap (λ t. drop 1 t) are) (omega arith) is

-- columns with equal kinds and cells
pub same_rows : (entities : List Entity) (old new : List ColumnState) → AllZip IsSameColumn old new → rows_of entities new ≡ rows_of entities old
same_rows entities [] [] all = refl
same_rows entities [] (n ∷ new) all = absurd all
same_rows entities (o ∷ old) [] all = absurd all
same_rows entities (o ∷ old) (n ∷ new) all = λ i. zip_with (with_first (all.0.kind i)) (all.0.cells i) (same_rows entities old new all.1 i)

pub same_kinds_of : (old new : List ColumnState) → AllZip IsSameColumn old new → kinds_of new ≡ kinds_of old
same_kinds_of [] [] all = refl
same_kinds_of [] (n ∷ new) all = absurd all
same_kinds_of (o ∷ old) [] all = absurd all
same_kinds_of (o ∷ old) (n ∷ new) all = λ i. all.0.kind i ∷ same_kinds_of old new all.1 i

pub same_long : (count : ℕ) (old new : List ColumnState) → AllZip IsSameColumn old new → AreLong count old → AreLong count new
same_long count [] [] all long k d l = absurd (omega arith)
same_long count [] (n ∷ new) all long k d l = absurd all
same_long count (o ∷ old) [] all long k d l = absurd all
same_long count (o ∷ old) (n ∷ new) all long zero d l = ap length all.0.cells ∙ first_long count o old long
same_long count (o ∷ old) (n ∷ new) all long (suc k) d l = same_long count old new all.1 (rest_long count o old long) k d (omega arith)

grown_same : (old new : List ColumnState) → AllZip IsGrown old new → AllZip IsSameColumn old new
grown_same [] [] all = tt
grown_same [] (n ∷ new) all = absurd all
grown_same (o ∷ old) [] all = absurd all
grown_same (o ∷ old) (n ∷ new) all = (all.0.same, grown_same old new all.1)

length-grown : (old new : List ColumnState) → AllZip IsGrown old new → length new ≡ length old
length-grown [] [] all = refl
length-grown [] (n ∷ new) all = absurd all
length-grown (o ∷ old) [] all = absurd all
length-grown (o ∷ old) (n ∷ new) all = ap (λ k. suc k) (length-grown old new all.1)

-- columns that are ready for memory: those of the table's kinds, with the rows that it had
pub record AreReady (mask : ℕ) (entities : List Entity) (capacity : ℕ) (columns ready : List ColumnState) : Type 0 where
  pub long : AreLong (length entities) ready
  pub kinds : AreColumnsOf mask ready
  pub rows : rows_of entities ready ≡ rows_of entities columns
  pub wide : least capacity columns ≤ least capacity ready
  pub fits : length entities ≤ least capacity ready

pub are_ready : (mask : ℕ) (entities : List Entity) (capacity : ℕ) (columns ready : List ColumnState) → IsTable mask entities capacity columns → length entities ≤ capacity →
    (0 < capacity → ready ≡ columns) → (capacity ≡ 0 → AreColumnsOf mask ready × AreLong 0 ready) → AreReady mask entities capacity columns ready
are_ready mask entities zero columns ready is fits kept made =
    let none = nothing entities (omega arith) in
    let m = made refl in
    record {
      long = subst (λ (es : List Entity). AreLong (length es) ready) (sym none) m.1;
      kinds = m.0;
      rows = (λ i. rows_of (none i) ready) ∙ no_rows ready m.1 ∙ sym (no_rows columns (subst (λ (es : List Entity). AreLong (length es) columns) none is.long)) ∙ (λ i. rows_of (sym none i) columns);
      wide = omega (arith, least_first 0 columns);
      fits = omega (arith, fits);
    }
  where
    nothing : (es : List Entity) → length es ≤ 0 → es ≡ []
    nothing [] l = refl
    nothing (e ∷ es) l = absurd (omega arith)
are_ready mask entities (suc capacity) columns ready is fits kept made =
    let same = sym (kept (omega arith)) in
    subst (AreReady mask entities (suc capacity) columns) same (record { long = is.long; kinds = is.kinds (omega arith); rows = refl; wide = omega arith; fits = is.fits })

-- a table after its columns grew, and perhaps its list of entities
pub record IsWider (mask : ℕ) (entities : List Entity) (capacity wider : ℕ) (columns others : List ColumnState) : Type 0 where
  pub table : IsTable mask entities wider others
  pub rows : rows_of entities others ≡ rows_of entities columns
  pub wide : least capacity columns ≤ least wider others

pub is_wider : (mask : ℕ) (entities : List Entity) (capacity wider count : ℕ) (columns ready lent new : List ColumnState) → AreReady mask entities capacity columns ready → capacity ≤ wider →
    count ≡ length ready → lent ≡ ready → AllZip IsGrown lent new → IsWider mask entities capacity wider columns (take count (new ++ drop (length new) ready))
is_wider mask entities capacity wider count columns ready lent new is l e f grown =
    let all : AllZip IsGrown ready new = subst (λ t. AllZip IsGrown t new) f grown in
    let same = grown_same ready new all in
    subst (IsWider mask entities capacity wider columns) (sym (written_back count new ready e (length-grown ready new all))) (record {
      table = record { long = same_long (length entities) ready new same is.long; kinds = λ some row g. is.kinds row (g ∙ same_kinds_of ready new same); fits = omega (arith, is.fits, least_grown capacity wider ready new l all) };
      rows = same_rows entities ready new same ∙ is.rows;
      wide = omega (arith, is.wide, least_grown capacity wider ready new l all);
    })

-- the room that was made in each column and in the list of entities is there in the table
pub room_made : (mask : ℕ) (entities : List Entity) (wider additional count : ℕ) (columns lent new : List ColumnState) → IsTable mask entities wider (take count (new ++ drop (length new) columns)) →
    count ≡ length columns → lent ≡ columns → AllZip IsGrown lent new → ((k : ℕ) (d : ColumnState) → k < length new → length (get_or new k d).cells + additional ≤ (get_or new k d).capacity) → length entities + additional ≤ wider →
    length (rows_of entities (take count (new ++ drop (length new) columns))) + additional ≤ least wider (take count (new ++ drop (length new) columns))
room_made mask entities wider additional count columns lent new is e f grown room l =
    let all : AllZip IsGrown columns new = subst (λ t. AllZip IsGrown t new) f grown in
    let back = written_back count new columns e (length-grown columns new all) in
    let long : AreLong (length entities) new = subst (AreLong (length entities)) back is.long in
    let above = least_above (length entities + additional) wider new l (λ k d m. omega (arith, room k d m, long k d m)) in
    subst (λ (t : List ColumnState). length (rows_of entities t) + additional ≤ least wider t) (sym back) (omega (arith, above, length-rows_of entities new long))

-- columns that have the room already
pub room_there : (mask : ℕ) (entities : List Entity) (capacity additional : ℕ) (columns ready lent : List ColumnState) → AreLong (length entities) ready → least capacity columns ≤ least capacity ready → lent ≡ ready →
    length entities + additional ≤ least capacity columns → (k : ℕ) (d : ColumnState) → k < length lent → length (get_or lent k d).cells + additional ≤ (get_or lent k d).capacity
room_there mask entities capacity additional columns ready lent long wide same l =
    subst (λ (t : List ColumnState). (k : ℕ) (d : ColumnState) → k < length t → length (get_or t k d).cells + additional ≤ (get_or t k d).capacity) (sym same)
    (λ k d m. omega (arith, long k d m, least_at capacity ready k d m))
