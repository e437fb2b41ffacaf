-- The rows of a table, when a run's columns are written whole, each into the column of its kind.
use Rattle.std.proofs.Common.{◌≡◌, ℕ, zero, suc, ◌+◌, ◌<◌, ◌≤◌, Bool, true, false, cond, T, List, [], ◌∷◌, ◌++◌, ℤ, pos, length, get_or, take, drop, map, min, refl, ap, subst, sym, ◌∙◌, arith, Some, None, nat_eq}
use Rattle.std.specs.Prelude.{All, slice_get, slice_set}
use Rattle.std.specs.List.{position_from}
use Rattle.std.specs.Option.{option_map}
use Rattle.std.specs.Ordering.{nat_cmp}
use Rattle.std.specs.Cmp.{nat_cmp_is}
use Rattle.std.specs.FinMap.Entries.{put, by_order}
use Rattle.std.specs.declared.cmp.Ordering.TheVariants.{Less, Equal, Greater}
use Rattle.std.proofs.lemmas.Bool.{eqb-true}
use Rattle.std.proofs.lemmas.List.{drop_all}
use Rattle.std.proofs.Math.Seq.{drop-cons}
use Rattle.std.proofs.lemmas.Cmp.{ranked}
use Rattle.std.proofs.lemmas.Option.{get_or_from_slice_get, slice_get_within}
use Rattle.scene_kinds.specs.Cells.{HasKinds}
use Rattle.scene_kinds.specs.declared.cell.Cell.{Cell}
use Rattle.scene_kinds.specs.declared.cells.Row.{Row}
use Rattle.scene_kinds.specs.declared.entity.Entity.{Entity}
use Rattle.scene_kinds.proofs.Choices.{test_parts, less}
use Rattle.scene_kinds.proofs.Positions.{found, missed}
use Rattle.scene_table.specs.declared.run.RunColumn.{RunColumn}
use Rattle.scene_table.specs.Columns.{AreLong, ColumnState, IsTable, cells_of, is_below, kinds_of, least, rises, rows_of, with_cells_of, with_first, zip_with}
use Rattle.scene_table.specs.Runs.{AreLongFor, Changed, added_in, all_turned, changed_of, columns_after, grown, rows_with_rows, turned, with_cells}
use Rattle.scene_table.specs.Table.{row_with_cell}
use Rattle.scene_table.proofs.ColumnCells.{added_of, length-cells_of}
use Rattle.scene_table.proofs.KindLists.{rises_is}
use Rattle.scene_table.proofs.RunFacts.{length-mapped, of_kind, read_of_kind}
use Rattle.scene_table.proofs.TableFacts.{least_first, no_rows, row_there, written_back}
use Rattle.scene_table.proofs.TableRows.{entities_of, first_long, kind_here, kind_later, length-rows_of, rest_long, same_length}
use Rattle.scene_table.proofs.TurnCells.{length-grown}

-- ---- the column of a kind

module _ (kind : ℕ) (cells : ColumnState → List Cell) where
  -- it is the one that a search finds
  pub with_found : (columns : List ColumnState) (n : ℕ) (d : ColumnState) → position_from (λ (c : ColumnState). nat_eq kind c.kind) 0 columns ≡ Some n
      → slice_set columns n (record (get_or columns n d) { cells = cells (get_or columns n d) }) ≡ with_cells_of kind cells columns
  with_found columns n d h = found (λ (c : ColumnState). nat_eq kind c.kind) (λ cs k. slice_set cs k (record (get_or cs k d) { cells = cells (get_or cs k d) }) ≡ with_cells_of kind cells cs)
      (λ c cs t. ap (λ b. cond b (record c { cells = cells c } ∷ cs) (c ∷ with_cells_of kind cells cs)) (sym t))
      (λ c cs k t e. ap (λ x. c ∷ x) e ∙ ap (λ b. cond b (record c { cells = cells c } ∷ cs) (c ∷ with_cells_of kind cells cs)) (sym t)) columns n h

  pub with_missed : (columns : List ColumnState) → position_from (λ (c : ColumnState). nat_eq kind c.kind) 0 columns ≡ None → columns ≡ with_cells_of kind cells columns
  with_missed columns h = missed (λ (c : ColumnState). nat_eq kind c.kind) (λ cs. cs ≡ with_cells_of kind cells cs) refl
      (λ c cs t e. ap (λ x. c ∷ x) e ∙ ap (λ b. cond b (record c { cells = cells c } ∷ cs) (c ∷ with_cells_of kind cells cs)) (sym t)) columns h

  -- its kind and its memory stay
  pub kinds_with : (columns : List ColumnState) → kinds_of (with_cells_of kind cells columns) ≡ kinds_of columns
  kinds_with [] = refl
  kinds_with (c ∷ columns) = elim (nat_eq kind c.kind) as (λ b. kinds_of (cond b (record c { cells = cells c } ∷ columns) (c ∷ with_cells_of kind cells columns)) ≡ kinds_of (c ∷ columns)) [
    | true ↦ refl
    | false ↦ ap (λ ks. c.kind ∷ ks) (kinds_with columns)
  ]

  pub least_with : (capacity : ℕ) (columns : List ColumnState) → least capacity (with_cells_of kind cells columns) ≡ least capacity columns
  least_with capacity [] = refl
  least_with capacity (c ∷ columns) = elim (nat_eq kind c.kind) as (λ b. least capacity (cond b (record c { cells = cells c } ∷ columns) (c ∷ with_cells_of kind cells columns)) ≡ least capacity (c ∷ columns)) [
    | true ↦ refl
    | false ↦ ap (min c.capacity) (least_with capacity columns)
  ]

  -- and where as many cells are written, all columns are as long as before
  pub long_with : (n m : ℕ) (columns : List ColumnState) → AreLong n columns → AreLong m columns → ((c : ColumnState) → length c.cells ≡ n → length (cells c) ≡ n) → AreLong m (with_cells_of kind cells columns)
  long_with n m [] long same keep = λ k d l. absurd (omega arith)
  long_with n m (c ∷ columns) long same keep = elim (nat_eq kind c.kind) as (λ b. AreLong m (cond b (record c { cells = cells c } ∷ columns) (c ∷ with_cells_of kind cells columns))) [
    | true ↦ here
    | false ↦ later (long_with n m columns (rest_long n c columns long) (rest_long m c columns same) keep)
  ]
    where
      here : AreLong m (record c { cells = cells c } ∷ columns)
      here zero d l = keep c (first_long n c columns long) ∙ sym (first_long n c columns long) ∙ first_long m c columns same
      here (suc k) d l = same (suc k) d (omega arith)

      later : AreLong m (with_cells_of kind cells columns) → AreLong m (c ∷ with_cells_of kind cells columns)
      later rest zero d l = first_long m c columns same
      later rest (suc k) d l = rest k d (omega arith)

-- one of two facts, by a test
abbrev pub Chosen : Bool → Type 0 → Type 0 → Type 0
Chosen true A B = A
Chosen false A B = B

-- a fact of the first column of a kind, which is there
abbrev pub OfKind : ℕ → (ColumnState → Type 0) → List ColumnState → Type 0
OfKind kind P [] = ⊥
OfKind kind P (c ∷ columns) = Chosen (nat_eq kind c.kind) (P c) (OfKind kind P columns)

of_kind_more : (kind n : ℕ) (P Q : ColumnState → Type 0) (columns : List ColumnState) → AreLong n columns → ((c : ColumnState) → length c.cells ≡ n → P c → Q c) → OfKind kind P columns → OfKind kind Q columns
of_kind_more kind n P Q [] long f h = h
of_kind_more kind n P Q (c ∷ columns) long f h = elim (nat_eq kind c.kind) as (λ b. Chosen b (P c) (OfKind kind P columns) → Chosen b (Q c) (OfKind kind Q columns)) [
  | true ↦ λ p. f c (first_long n c columns long) p
  | false ↦ λ p. of_kind_more kind n P Q columns (rest_long n c columns long) f p
] h

-- what a write keeps holds after it
of_kind_kept : (kind k n : ℕ) (cells : ColumnState → List Cell) (P : ColumnState → Type 0) (columns : List ColumnState) → AreLong n columns → ((c : ColumnState) → length c.cells ≡ n → P c → P (record c { cells = cells c }))
    → OfKind kind P columns → OfKind kind P (with_cells_of k cells columns)
of_kind_kept kind k n cells P [] long f h = h
of_kind_kept kind k n cells P (c ∷ columns) long f h = elim (nat_eq k c.kind) as (λ b. OfKind kind P (cond b (record c { cells = cells c } ∷ columns) (c ∷ with_cells_of k cells columns))) [
  | true ↦ elim (nat_eq kind c.kind) as (λ b. Chosen b (P c) (OfKind kind P columns) → Chosen b (P (record c { cells = cells c })) (OfKind kind P columns)) [
    | true ↦ λ p. f c (first_long n c columns long) p
    | false ↦ λ p. p
  ] h
  | false ↦ elim (nat_eq kind c.kind) as (λ b. Chosen b (P c) (OfKind kind P columns) → Chosen b (P c) (OfKind kind P (with_cells_of k cells columns))) [
    | true ↦ λ p. p
    | false ↦ λ p. of_kind_kept kind k n cells P columns (rest_long n c columns long) f p
  ] h
]

-- a kind below those of columns is below each kind that is there
below_there : (k kind : ℕ) (P : ColumnState → Type 0) (columns : List ColumnState) → T (is_below k (kinds_of columns)) → OfKind kind P columns → k < kind
below_there k kind P [] up h = absurd h
below_there k kind P (c ∷ columns) up h =
    let p = test_parts _ _ up in
    elim (nat_eq kind c.kind) as (λ b. nat_eq kind c.kind ≡ b → Chosen b (P c) (OfKind kind P columns) → k < kind) [
      | true ↦ λ t q. subst (λ x. k < x) (sym (eqb-true kind c.kind t)) (ranked k c.kind Less (sym (less _ p.0)))
      | false ↦ λ t q. below_there k kind P columns p.1 q
    ] refl h

-- ---- rows

-- rows with cells of a kind, row by row
abbrev pub rows_with_cells : List Row → ℕ → List Cell → List Row
rows_with_cells rows kind cells = zip_with (λ row cell. row_with_cell row kind cell) rows cells

first_cell : (kind k : ℕ) (row : Row) (x y : Cell) → nat_eq kind k ≡ true → with_first k y row ≡ row_with_cell (with_first k x row) kind y
first_cell kind k row x y t =
    ap (λ o. record row { cells = by_order o ((kind, y) ∷ (k, x) ∷ row.cells) ((k, y) ∷ row.cells) ((k, x) ∷ put nat_cmp kind y row.cells) }) (nat_cmp_is kind k Equal (eqb-true kind k t))

later_cell : (kind k : ℕ) (row : Row) (x y : Cell) → k < kind → with_first k x (row_with_cell row kind y) ≡ row_with_cell (with_first k x row) kind y
later_cell kind k row x y l =
    ap (λ o. record row { cells = by_order o ((kind, y) ∷ (k, x) ∷ row.cells) ((k, y) ∷ row.cells) ((k, x) ∷ put nat_cmp kind y row.cells) }) (nat_cmp_is kind k Greater l)

first_cells : (kind k : ℕ) (rows : List Row) (xs ys : List Cell) → nat_eq kind k ≡ true → length xs ≡ length rows → zip_with (with_first k) ys rows ≡ rows_with_cells (zip_with (with_first k) xs rows) kind ys
first_cells kind k [] [] [] t e = refl
first_cells kind k [] [] (y ∷ ys) t e = refl
first_cells kind k [] (x ∷ xs) ys t e = absurd (omega arith)
first_cells kind k (r ∷ rows) [] ys t e = absurd (omega arith)
first_cells kind k (r ∷ rows) (x ∷ xs) [] t e = refl
first_cells kind k (r ∷ rows) (x ∷ xs) (y ∷ ys) t e = λ i. first_cell kind k r x y t i ∷ first_cells kind k rows xs ys t (omega arith) i

later_cells : (kind k : ℕ) (rows : List Row) (xs ys : List Cell) → k < kind → zip_with (with_first k) xs (rows_with_cells rows kind ys) ≡ rows_with_cells (zip_with (with_first k) xs rows) kind ys
later_cells kind k rows [] ys l = refl
later_cells kind k [] (x ∷ xs) ys l = refl
later_cells kind k (r ∷ rows) (x ∷ xs) [] l = refl
later_cells kind k (r ∷ rows) (x ∷ xs) (y ∷ ys) l = λ i. later_cell kind k r x y l i ∷ later_cells kind k rows xs ys l i

-- the cells of a column are written whole: each row has its own of them
pub column_written : (kind : ℕ) (cells : ColumnState → List Cell) (new : List Cell) (entities : List Entity) (columns : List ColumnState) → AreLong (length entities) columns → T (rises (kinds_of columns))
    → OfKind kind (λ (c : ColumnState). cells c ≡ new) columns → rows_of entities (with_cells_of kind cells columns) ≡ rows_with_cells (rows_of entities columns) kind new
column_written kind cells new entities [] long up h = absurd h
column_written kind cells new entities (c ∷ columns) long up h =
    let p = test_parts _ _ up in
    elim (nat_eq kind c.kind) as (λ b. nat_eq kind c.kind ≡ b → Chosen b (cells c ≡ new) (OfKind kind (λ (c : ColumnState). cells c ≡ new) columns)
    → rows_of entities (cond b (record c { cells = cells c } ∷ columns) (c ∷ with_cells_of kind cells columns)) ≡ rows_with_cells (rows_of entities (c ∷ columns)) kind new) [
      | true ↦ λ t q. ap (λ x. zip_with (with_first c.kind) x (rows_of entities columns)) q ∙ first_cells kind c.kind (rows_of entities columns) c.cells new t (same_length entities c columns long)
      | false ↦ λ t q.
          ap (zip_with (with_first c.kind) c.cells) (column_written kind cells new entities columns (rest_long (length entities) c columns long) p.1 q)
          ∙ later_cells kind c.kind (rows_of entities columns) c.cells new (below_there c.kind kind (λ (c : ColumnState). cells c ≡ new) columns p.0 q)
    ] refl h

-- rows with the cells of rows that have nothing
nothing_written : (rows : List Row) (entities : List Entity) → length rows ≡ length entities → rows ≡ rows_with_rows rows (rows_of entities [])
nothing_written [] [] e = refl
nothing_written [] (x ∷ entities) e = absurd (omega arith)
nothing_written (r ∷ rows) [] e = absurd (omega arith)
nothing_written (r ∷ rows) (x ∷ entities) e = ap (λ t. r ∷ t) (nothing_written rows entities (omega arith))

-- one kind more
one_more_written : (rows written : List Row) (kind : ℕ) (cells : List Cell) → rows_with_rows (rows_with_cells rows kind cells) written ≡ rows_with_rows rows (zip_with (with_first kind) cells written)
one_more_written [] written kind cells = refl
one_more_written (r ∷ rows) written kind [] = refl
one_more_written (r ∷ rows) [] kind (x ∷ cells) = refl
one_more_written (r ∷ rows) (w ∷ written) kind (x ∷ cells) = ap (λ t. with_cells (row_with_cell r kind x) w.cells ∷ t) (one_more_written rows written kind cells)

-- ---- columns of a run

-- a column has these added ticks
abbrev pub HasAdded : List ℕ → ColumnState → Type 0
HasAdded added c = map (λ (cell : Cell). cell.added) c.cells ≡ added

turned_long : (number : ℕ) (c : RunColumn) (turns : ℤ) (changed : Changed) (n : ℕ) → length (grown c.series turns) ≡ n → length (changed_of changed number n) ≡ n → (column : ColumnState) → length column.cells ≡ n
    → length (turned number c turns changed column) ≡ n
turned_long number c turns changed n count same column e =
    length-cells_of (grown c.series turns) (map (λ (cell : Cell). cell.added) column.cells) (changed_of changed number (length column.cells)) (record {
      ticks_added = length-mapped (λ (cell : Cell). cell.added) column.cells ∙ e ∙ sym count;
      ticks_changed = ap (λ k. length (changed_of changed number k)) e ∙ same ∙ sym count;
    }) ∙ count

turned_added : (number : ℕ) (c : RunColumn) (turns : ℤ) (changed : Changed) (n : ℕ) → length (grown c.series turns) ≡ n → length (changed_of changed number n) ≡ n → (column : ColumnState) → length column.cells ≡ n
    → map (λ (cell : Cell). cell.added) (turned number c turns changed column) ≡ map (λ (cell : Cell). cell.added) column.cells
turned_added number c turns changed n count same column e =
    added_of (grown c.series turns) (map (λ (cell : Cell). cell.added) column.cells) (changed_of changed number (length column.cells))
    (length-mapped (λ (cell : Cell). cell.added) column.cells ∙ e ∙ sym count) (ap (λ k. length (changed_of changed number k)) e ∙ same ∙ sym count)

pub kinds_turned : (number : ℕ) (of_run : List RunColumn) (turns : ℤ) (changed : Changed) (columns : List ColumnState) → kinds_of (all_turned number of_run turns changed columns) ≡ kinds_of columns
kinds_turned number [] turns changed columns = refl
kinds_turned number (c ∷ of_run) turns changed columns = kinds_turned (number + 1) of_run turns changed (with_cells_of c.kind (turned number c turns changed) columns) ∙ kinds_with c.kind (turned number c turns changed) columns

pub least_turned : (number : ℕ) (of_run : List RunColumn) (turns : ℤ) (changed : Changed) (capacity : ℕ) (columns : List ColumnState) → least capacity (all_turned number of_run turns changed columns) ≡ least capacity columns
least_turned number [] turns changed capacity columns = refl
least_turned number (c ∷ of_run) turns changed capacity columns = least_turned (number + 1) of_run turns changed capacity (with_cells_of c.kind (turned number c turns changed) columns) ∙ least_with c.kind (turned number c turns changed) capacity columns

-- the changed ticks of a run's columns, counted from a number, are so many
abbrev pub AreTicksLong : ℕ → List RunColumn → Changed → ℕ → Type 0
AreTicksLong number of_run changed n = (k : ℕ) (c : RunColumn) → slice_get of_run k ≡ Some c → length (changed_of changed (number + k) n) ≡ n

first_ticks : (number : ℕ) (c : RunColumn) (of_run : List RunColumn) (changed : Changed) (n : ℕ) → AreTicksLong number (c ∷ of_run) changed n → length (changed_of changed number n) ≡ n
first_ticks number c of_run changed n ticks = ap (λ k. length (changed_of changed k n)) (omega arith) ∙ ticks 0 c refl

rest_ticks : (number : ℕ) (c : RunColumn) (of_run : List RunColumn) (changed : Changed) (n : ℕ) → AreTicksLong number (c ∷ of_run) changed n → AreTicksLong (number + 1) of_run changed n
rest_ticks number c of_run changed n ticks k e there = ap (λ j. length (changed_of changed j n)) (omega arith) ∙ ticks (suc k) e there

rest_of_run : (entities : List Entity) (c : RunColumn) (of_run : List RunColumn) → AreLongFor entities (c ∷ of_run) → AreLongFor entities of_run
rest_of_run entities c of_run long k d l = long (suc k) d (omega arith)

grown_long : (entities : List Entity) (c : RunColumn) (of_run : List RunColumn) (turns : ℤ) → AreLongFor entities (c ∷ of_run) → length (grown c.series turns) ≡ length entities
grown_long entities c of_run turns long = length-grown c.series turns (pos 0) ∙ (long 0 c (omega arith)).1

pub long_turned : (number : ℕ) (of_run : List RunColumn) (turns : ℤ) (changed : Changed) (entities : List Entity) (columns : List ColumnState) → AreLongFor entities of_run → AreTicksLong number of_run changed (length entities)
    → AreLong (length entities) columns → AreLong (length entities) (all_turned number of_run turns changed columns)
long_turned number [] turns changed entities columns run ticks long = long
long_turned number (c ∷ of_run) turns changed entities columns run ticks long =
    let n = length entities in
    long_turned (number + 1) of_run turns changed entities (with_cells_of c.kind (turned number c turns changed) columns) (rest_of_run entities c of_run run) (rest_ticks number c of_run changed n ticks)
    (long_with c.kind (turned number c turns changed) n n columns long long (turned_long number c turns changed n (grown_long entities c of_run turns run) (first_ticks number c of_run changed n ticks)))

-- each of a run's columns has its kind in these, with its added ticks
abbrev pub AreAddedIn : List ColumnState → List RunColumn → Type 0
AreAddedIn columns of_run = All (λ c. OfKind c.kind (HasAdded c.added.items) columns) of_run

-- the rows are those with what the run has, row by row
pub rows_turned : (number : ℕ) (of_run : List RunColumn) (turns : ℤ) (changed : Changed) (entities : List Entity) (columns : List ColumnState) → AreLongFor entities of_run → AreTicksLong number of_run changed (length entities)
    → AreLong (length entities) columns → T (rises (kinds_of columns)) → AreAddedIn columns of_run
    → rows_of entities (all_turned number of_run turns changed columns) ≡ rows_with_rows (rows_of entities columns) (rows_of entities (columns_after number of_run turns changed))
rows_turned number [] turns changed entities columns run ticks long up added = nothing_written (rows_of entities columns) entities (length-rows_of entities columns long)
rows_turned number (c ∷ of_run) turns changed entities columns run ticks long up added =
    let n = length entities in
    let count = grown_long entities c of_run turns run in
    let same = first_ticks number c of_run changed n ticks in
    let wide : length c.added.items ≡ n = (run 0 c (omega arith)).0 in
    let new = cells_of (grown c.series turns) c.added.items (changed_of changed number (length c.added.items)) in
    let next = with_cells_of c.kind (turned number c turns changed) columns in
    let there = of_kind_more c.kind n (HasAdded c.added.items) (λ (x : ColumnState). turned number c turns changed x ≡ new) columns long
    (λ x e h i. cells_of (grown c.series turns) (h i) (changed_of changed number ((e ∙ sym wide) i))) (added 0 c (omega arith)) in
    rows_turned (number + 1) of_run turns changed entities next (rest_of_run entities c of_run run) (rest_ticks number c of_run changed n ticks)
    (long_with c.kind (turned number c turns changed) n n columns long long (turned_long number c turns changed n count same))
    (subst (λ ks. T (rises ks)) (sym (kinds_with c.kind (turned number c turns changed) columns)) up)
    (λ k d l. of_kind_kept (get_or of_run k d).kind c.kind n (turned number c turns changed) (HasAdded (get_or of_run k d).added.items) columns long
    (λ x e h. turned_added number c turns changed n count same x e ∙ h) (added (suc k) d (omega arith)))
    ∙ ap (λ t. rows_with_rows t (rows_of entities (columns_after (number + 1) of_run turns changed))) (column_written c.kind (turned number c turns changed) new entities columns long up there)
    ∙ one_more_written (rows_of entities columns) (rows_of entities (columns_after (number + 1) of_run turns changed)) c.kind new

-- ---- one after the other

pub turned_next : (number : ℕ) (c : RunColumn) (of_run : List RunColumn) (turns : ℤ) (changed : Changed) (columns new : List ColumnState) → number < length of_run → c ≡ get_or of_run number c
    → new ≡ with_cells_of c.kind (turned number c turns changed) columns → all_turned (number + 1) (drop (number + 1) of_run) turns changed new ≡ all_turned number (drop number of_run) turns changed columns
turned_next number c of_run turns changed columns new l is made =
    let next : number + 1 ≡ suc number = omega arith in
    ap (λ k. all_turned (number + 1) (drop k of_run) turns changed new) next
    ∙ ap (all_turned (number + 1) (drop (suc number) of_run) turns changed) made
    ∙ ap (λ (x : RunColumn). all_turned number (x ∷ drop (suc number) of_run) turns changed columns) is
    ∙ ap (λ cs. all_turned number cs turns changed columns) (sym (drop-cons of_run number c l))

pub turned_end : (number : ℕ) (of_run : List RunColumn) (turns : ℤ) (changed : Changed) (columns : List ColumnState) → length of_run ≤ number → columns ≡ all_turned number (drop number of_run) turns changed columns
turned_end number of_run turns changed columns l = ap (λ cs. all_turned number cs turns changed columns) (sym (drop_all number of_run l))

-- a column that is written stays as long
pub turned_keeps : (number : ℕ) (c : RunColumn) (turns : ℤ) (changed : Changed) (n m : ℕ) (columns : List ColumnState) → length (grown c.series turns) ≡ n → length (changed_of changed number n) ≡ n → AreLong n columns → AreLong m columns
    → AreLong m (with_cells_of c.kind (turned number c turns changed) columns)
turned_keeps number c turns changed n m columns count same long also = long_with c.kind (turned number c turns changed) n m columns long also (turned_long number c turns changed n count same)

-- ---- a table that a run is put into

somes_same : (xs ys : List ℕ) → map (λ (x : ℕ). Some x) xs ≡ map (λ (x : ℕ). Some x) ys → xs ≡ ys
somes_same [] [] e = refl
somes_same [] (y ∷ ys) e = absurd (let h : [] ≡ Some y ∷ map (λ (x : ℕ). Some x) ys = e in cc)
somes_same (x ∷ xs) [] e = absurd (let h : Some x ∷ map (λ (x : ℕ). Some x) xs ≡ [] = e in cc)
somes_same (x ∷ xs) (y ∷ ys) e =
    let h : Some x ∷ map (λ (x : ℕ). Some x) xs ≡ Some y ∷ map (λ (x : ℕ). Some x) ys = e in
    let rest : map (λ (x : ℕ). Some x) xs ≡ map (λ (x : ℕ). Some x) ys = cc in
    let first : x ≡ y = cc in
    λ i. first i ∷ somes_same xs ys rest i

-- where rows have a kind with these added ticks, the column of the kind has them
pub added_there : (entity : Entity) (entities : List Entity) (columns : List ColumnState) (kind : ℕ) (added : List ℕ) → AreLong (length (entity ∷ entities)) columns
    → added_in (rows_of (entity ∷ entities) columns) kind ≡ map (λ (tick : ℕ). Some tick) added → OfKind kind (HasAdded added) columns
added_there entity entities [] kind [] long h = absurd (let g : None ∷ added_in (rows_of entities []) kind ≡ [] = h in cc)
added_there entity entities [] kind (a ∷ added) long h = absurd (let g : None ∷ added_in (rows_of entities []) kind ≡ Some a ∷ map (λ (tick : ℕ). Some tick) added = h in cc)
added_there entity entities (c ∷ columns) kind added long h =
    let rows = rows_of (entity ∷ entities) columns in
    let all = rows_of (entity ∷ entities) (c ∷ columns) in
    let count = same_length (entity ∷ entities) c columns long in
    elim (nat_eq kind c.kind) as (λ b. nat_eq kind c.kind ≡ b → Chosen b (HasAdded added c) (OfKind kind (HasAdded added) columns)) [
      | true ↦ λ t. somes_same _ _ (sym (read_of_kind (λ (cell : Cell). cell.added) all kind c.cells (sym (kind_here kind c.kind c.cells rows t count))) ∙ h)
      | false ↦ λ t. added_there entity entities columns kind added (rest_long (length (entity ∷ entities)) c columns long)
          (of_kind (λ (cell : Cell). cell.added) rows kind ∙ ap (map (option_map (λ (cell : Cell). cell.added))) (sym (kind_later kind c.kind c.cells rows t count))
          ∙ sym (of_kind (λ (cell : Cell). cell.added) all kind) ∙ h)
    ] refl

-- the added ticks of a run's columns are those of the rows
abbrev pub HaveAdded : List Row → List RunColumn → Type 0
HaveAdded rows of_run = All (λ c. added_in rows c.kind ≡ map (λ (tick : ℕ). Some tick) c.added.items) of_run

table_rows : (mask capacity : ℕ) (entities : List Entity) (columns : List ColumnState) (of_run : List RunColumn) (turns : ℤ) (changed : Changed) → IsTable mask entities capacity columns → AreLongFor entities of_run
    → AreTicksLong 0 of_run changed (length entities) → HaveAdded (rows_of entities columns) of_run
    → rows_of entities (all_turned 0 of_run turns changed columns) ≡ rows_with_rows (rows_of entities columns) (rows_of entities (columns_after 0 of_run turns changed))
table_rows mask capacity [] columns of_run turns changed is run ticks added =
    no_rows (all_turned 0 of_run turns changed columns) (long_turned 0 of_run turns changed [] columns run ticks is.long)
    ∙ ap (λ rows. rows_with_rows rows (rows_of [] (columns_after 0 of_run turns changed))) (sym (no_rows columns is.long))
table_rows mask capacity (entity ∷ entities) columns of_run turns changed is run ticks added =
    let there = row_there (entity ∷ entities) columns 0 is.long (omega arith) in
    let has : HasKinds mask there.0 = is.kinds (omega (arith, is.fits, least_first capacity columns)) there.0 there.1.kinds in
    rows_turned 0 of_run turns changed (entity ∷ entities) columns run ticks is.long (subst T (sym (rises_is there.0.cells) ∙ ap rises there.1.kinds) has.ascending)
    (λ k d l. added_there entity entities columns (get_or of_run k d).kind (get_or of_run k d).added.items is.long (added k d l))

module _ (mask capacity : ℕ) (entities : List Entity) (columns : List ColumnState) (rows : List Row) (is : IsTable mask entities capacity columns) (stand : rows_of entities columns ≡ rows)
    (own : List Entity) (of_run : List RunColumn) (turns : ℤ) (changed : Changed) (same : own ≡ map (λ (row : Row). row.entity) rows) (long : AreLongFor own of_run)
    (ticks : (number : ℕ) (c : RunColumn) → slice_get of_run number ≡ Some c → length (changed_of changed number (length rows)) ≡ length rows) (added : HaveAdded rows of_run) where
  -- the entities of the run are the table's
  own_is : own ≡ entities
  own_is = same ∙ ap (map (λ (row : Row). row.entity)) (sym stand) ∙ entities_of entities columns is.long

  count_is : length rows ≡ length entities
  count_is = ap length (sym stand) ∙ length-rows_of entities columns is.long

  own_long : AreLongFor entities of_run
  own_long = subst (λ (es : List Entity). AreLongFor es of_run) own_is long

  own_ticks : AreTicksLong 0 of_run changed (length entities)
  own_ticks k c there = ap (λ j. length (changed_of changed j (length entities))) (omega arith) ∙ subst (λ n. length (changed_of changed k n) ≡ n) count_is (ticks k c there)

  each_long : (k : ℕ) (d : RunColumn) → k < length of_run → length (grown (get_or of_run k d).series turns) ≡ length entities
  each_long k d l = length-grown (get_or of_run k d).series turns (pos 0) ∙ (own_long k d l).1

  -- what the writes ask for
  pub put_values : All (λ (c : RunColumn). AreLong (length (grown c.series turns)) columns) of_run
  put_values k d l i e m = is.long i e m ∙ sym (each_long k d l)

  pub put_changed : (number : ℕ) (c : RunColumn) → slice_get of_run number ≡ Some c → length (changed_of changed number (length (grown c.series turns))) ≡ length (grown c.series turns)
  put_changed number c there =
      let count = subst (λ (x : RunColumn). length (grown x.series turns) ≡ length entities) (get_or_from_slice_get of_run number c c there) (each_long number c (slice_get_within of_run number c there)) in
      subst (λ n. length (changed_of changed number n) ≡ n) (count_is ∙ sym count) (ticks number c there)

  -- and what holds after them
  pub put_table : IsTable mask entities capacity (all_turned 0 of_run turns changed columns)
  put_table = record {
    long = long_turned 0 of_run turns changed entities columns own_long own_ticks is.long;
    kinds = λ some row e. is.kinds some row (e ∙ kinds_turned 0 of_run turns changed columns);
    fits = omega (arith, is.fits, least_turned 0 of_run turns changed capacity columns);
  }

  pub put_rows : rows_of entities (all_turned 0 of_run turns changed columns) ≡ rows_with_rows rows (rows_of own (columns_after 0 of_run turns changed))
  put_rows =
      table_rows mask capacity entities columns of_run turns changed is own_long own_ticks (subst (λ (rs : List Row). HaveAdded rs of_run) (sym stand) added)
      ∙ (λ i. rows_with_rows (stand i) (rows_of (sym own_is i) (columns_after 0 of_run turns changed)))

-- the columns come back to the table
pub turned_back : (count : ℕ) (of_run lent_run : List RunColumn) (turns lent_turns : ℤ) (changed : Changed) (columns lent new : List ColumnState) → count ≡ length columns → lent ≡ columns → lent_run ≡ of_run → lent_turns ≡ turns
    → new ≡ all_turned 0 lent_run lent_turns changed lent → take count (new ++ drop (length new) columns) ≡ all_turned 0 of_run turns changed columns
turned_back count of_run lent_run turns lent_turns changed columns lent new e f g h done =
    let same : new ≡ all_turned 0 of_run turns changed columns = done ∙ (λ i. all_turned 0 (g i) (h i) changed (f i)) in
    let kinds = ap length (ap kinds_of same ∙ kinds_turned 0 of_run turns changed columns) in
    written_back count new columns e (sym (length-mapped (λ (c : ColumnState). c.kind) new) ∙ kinds ∙ length-mapped (λ (c : ColumnState). c.kind) columns) ∙ same
