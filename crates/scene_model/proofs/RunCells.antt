-- The cells of a run that are set one after another are set at once, and keep a valid world valid.
use Rattle.std.proofs.Common.{◌≡◌, ℕ, zero, suc, ℤ, Bool, true, false, cond, List, [], ◌∷◌, ◌++◌, length, get_or, map, refl, ap, sym, subst, ◌∙◌, arith, Option, Some, None}
use Rattle.std.specs.Prelude.{All, is_some, option_map, slice_get, slice_set}
use Rattle.std.specs.Cmp.{nat_cmp_total}
use Rattle.std.specs.FinMap.{nat_cmp-IsAntisymmetric}
use Rattle.std.specs.List.{list_all}
use Rattle.std.specs.Option.{unwrap_or}
use Rattle.std.specs.Ordering.{nat_cmp, eq_by_cmp}
use Rattle.std.proofs.Math.Seq.{set-append_seam}
use Rattle.std.proofs.lemmas.Bool.{and_parts, and_from}
use Rattle.scene_kinds.specs.declared.entity.Entity.{Entity}
use Rattle.scene_kinds.specs.declared.cell.Cell.{Cell}
use Rattle.scene_kinds.specs.declared.cells.Row.{Row}
use Rattle.scene_kinds.specs.Cells.{cell_of, with_cell}
use Rattle.scene_kinds.proofs.CellLaws.{cell_of-with_cell}
use Rattle.scene_kinds.proofs.Lists.{list_at_same, with_list-list_at, with_list-with_list}
use Rattle.scene_table.specs.declared.run.RunColumn.{RunColumn}
use Rattle.scene_table.specs.CellWrites.{rows_with_cell_of}
use Rattle.scene_table.specs.Columns.{kinds_in}
use Rattle.scene_table.specs.Runs.{AreLongFor, Changed, RunState, added_in, changed_of, columns_after, rows_after, rows_with_rows, with_cells}
use Rattle.scene_table.specs.Table.{row_with_cell, rows_with_cell}
use Rattle.scene_table.specs.Tables.{StandsOnce, row_place, rows_at, with_row_at, with_rows}
use Rattle.scene_table.proofs.CellsOfTurn.{kinds_run}
use Rattle.scene_table.proofs.Homes.{place_found}
use Rattle.scene_table.proofs.TableRows.{entities_of, row_kinds}
use Rattle.scene_table.proofs.TurnCells.{columns_long}
use Rattle.scene_model.specs.World.{World}
use Rattle.scene_model.specs.Raw.{listed_cells, set_cell}
use Rattle.scene_model.specs.Can.{is_good_cell}
use Rattle.scene_model.specs.Valid.{IsValid}
use Rattle.scene_model.specs.RunRaw.{CanPutRun, RunsAreCells, RunsKeep, are_good, set_cells, set_rows, with_run}
use Rattle.scene_model.proofs.CanParts.{good_cell, set_cell as cell_decides}
use Rattle.scene_model.proofs.CellBack.{cells_come_back}
use Rattle.scene_model.proofs.MoveKeeps.{with_tables}
use Rattle.scene_model.proofs.RowOf.{made_by_row, row_stands}

-- ---- one cell

-- a cell that is set in the row at a place of a table
pub set_at : (w : World) (m at : ℕ) (r : Row) (kind : ℕ) (cell : Cell) → StandsOnce w.tables → slice_get (rows_at w.tables m) at ≡ Some r
    → set_cell w r.entity kind cell ≡ with_tables w (with_rows w.tables m (slice_set (rows_at w.tables m) at (row_with_cell r kind cell)))
set_at w m at r kind cell once there =
    made_by_row w r.entity (record { mask = m; place = at }) r (λ h row. with_tables w (with_row_at w.tables h (row_with_cell row kind cell)))
    (row_stands w r.entity (record { mask = m; place = at }) r once there refl)

-- a cell that is set in the row of an entity of the table
pub set_of : (w : World) (m at : ℕ) (e : Entity) (kind : ℕ) (cell : Cell) → StandsOnce w.tables → row_place e (rows_at w.tables m) ≡ Some at
    → set_cell w e kind cell ≡ with_tables w (with_rows w.tables m (rows_with_cell_of (rows_at w.tables m) e kind cell))
set_of w m at e kind cell once place =
    let rows = rows_at w.tables m in
    let h = place_found e rows at place in
    ap (λ x. set_cell w x kind cell) (sym h.same) ∙ set_at w m at h.row kind cell once h.there
    ∙ ap (λ rs. with_tables w (with_rows w.tables m rs)) (sym (
    ap (λ o. unwrap_or (option_map (λ i. rows_with_cell rows i kind cell) o) rows) place
    ∙ ap (λ o. unwrap_or (option_map (λ (row : Row). slice_set rows at (row_with_cell row kind cell)) o) rows) h.there))

-- a good cell of a kind that the row has keeps a valid world valid
pub set_keeps : (w : World) (m at : ℕ) (r : Row) (kind : ℕ) (before after : Cell) → IsValid w → slice_get (rows_at w.tables m) at ≡ Some r
    → cell_of r.cells kind ≡ Some before → is_good_cell w kind after ≡ true → IsValid (set_cell w r.entity kind after)
set_keeps w m at r kind before after v there now good =
    let stands = row_stands w r.entity (record { mask = m; place = at }) r v.rows.once there refl in
    (cells_come_back r.entity kind before after).keeps w v ((cell_decides w r.entity kind before after).1 (record {
      now = ap (λ o. cell_of (listed_cells o) kind) stands ∙ now;
      good = (good_cell w kind after).0 good;
    }))

-- ---- the cells of a row

-- a row has a cell of each of these kinds
abbrev pub has_each : List (ℕ × Cell) → List ℕ → Bool
has_each own kinds = list_all (λ k. is_some (cell_of own k)) kinds

pub some_cell : (o : Option Cell) → is_some o ≡ true → (c : Cell) × (o ≡ Some c)
some_cell None h = absurd (let k : false ≡ true = h in cc)
some_cell (Some c) h = (c, refl)

still_some : (b : Bool) (cell : Cell) (o : Option Cell) → is_some o ≡ true → is_some (cond b (Some cell) o) ≡ true
still_some true cell o h = refl
still_some false cell o h = h

-- after a cell was put into it too
pub still_each : (own : List (ℕ × Cell)) (kind : ℕ) (cell : Cell) (kinds : List ℕ) → has_each own kinds ≡ true → has_each (with_cell own kind cell) kinds ≡ true
still_each own kind cell [] h = refl
still_each own kind cell (k ∷ ks) h =
    let p = and_parts (is_some (cell_of own k)) (has_each own ks) h in
    and_from (is_some (cell_of (with_cell own kind cell) k)) (has_each (with_cell own kind cell) ks)
    (ap is_some (cell_of-with_cell own kind cell k) ∙ still_some (eq_by_cmp nat_cmp k kind) cell (cell_of own k) p.0)
    (still_each own kind cell ks p.1)

-- a valid world, which is another one but for the rows of a table
pub record IsWritten (w : World) (m : ℕ) (rows : List Row) (new : World) : Type 0 where
  pub is : new ≡ with_tables w (with_rows w.tables m rows)
  pub valid : IsValid new

get_seam : (done : List Row) (r : Row) (rows : List Row) → slice_get (done ++ r ∷ rows) (length done) ≡ Some r
get_seam [] r rows = refl
get_seam (d ∷ done) r rows = get_seam done r rows

pub one_done : (done : List Row) (r : Row) (rows : List Row) → done ++ r ∷ rows ≡ (done ++ r ∷ []) ++ rows
one_done [] r rows = refl
one_done (d ∷ done) r rows = ap (λ t. d ∷ t) (one_done done r rows)

-- nothing was written
pub same_written : (w : World) (m : ℕ) (rows : List Row) → IsValid w → rows_at w.tables m ≡ rows → IsWritten w m rows w
same_written w m rows v at = record {
  is = sym (ap (with_tables w) (ap (with_rows w.tables m) (sym at) ∙ with_list-list_at nat_cmp_total nat_cmp-IsAntisymmetric w.tables m));
  valid = v;
}

-- first these rows, and then those, which stay
written_on : (w : World) (m : ℕ) (rows more : List Row) (mid : World) (then : World → World) → mid ≡ with_tables w (with_rows w.tables m rows)
    → IsWritten (with_tables w (with_rows w.tables m rows)) m more (then (with_tables w (with_rows w.tables m rows))) → IsWritten w m more (then mid)
written_on w m rows more mid then e next = record {
  is = ap then e ∙ next.is ∙ ap (with_tables w) (with_list-with_list nat_cmp_total nat_cmp-IsAntisymmetric w.tables m rows more);
  valid = subst (λ u. IsValid (then u)) (sym e) next.valid;
}

-- a cell of the row behind those that are done
pub one_written : (w : World) (m : ℕ) (done : List Row) (r : Row) (rows : List Row) (kind : ℕ) (before after : Cell) → IsValid w → rows_at w.tables m ≡ done ++ r ∷ rows
    → cell_of r.cells kind ≡ Some before → is_good_cell w kind after ≡ true → IsWritten w m (done ++ row_with_cell r kind after ∷ rows) (set_cell w r.entity kind after)
one_written w m done r rows kind before after v at now good =
    let new = row_with_cell r kind after in
    let place : slice_get (rows_at w.tables m) (length done) ≡ Some r = ap (λ rs. slice_get rs (length done)) at ∙ get_seam done r rows in
    record {
      is = set_at w m (length done) r kind after v.rows.once place
          ∙ ap (λ rs. with_tables w (with_rows w.tables m rs)) (ap (λ rs. slice_set rs (length done) new) at ∙ set-append_seam done r rows new);
      valid = set_keeps w m (length done) r kind before after v place now good;
    }

-- and the others of its cells
pub cells_written : (w : World) (m : ℕ) (done : List Row) (r : Row) (rows : List Row) (cells : List (ℕ × Cell)) → IsValid w → rows_at w.tables m ≡ done ++ r ∷ rows
    → has_each r.cells (kinds_in cells) ≡ true → are_good w cells ≡ true → IsWritten w m (done ++ with_cells r cells ∷ rows) (set_cells r.entity cells w)
cells_written w m done r rows [] v at there good = same_written w m (done ++ r ∷ rows) v at
cells_written w m done r rows (c ∷ cells) v at there good =
    let t = and_parts (is_some (cell_of r.cells c.0)) (has_each r.cells (kinds_in cells)) there in
    let g = and_parts (is_good_cell w c.0 c.1) (are_good w cells) good in
    let new = row_with_cell r c.0 c.1 in
    let next = with_tables w (with_rows w.tables m (done ++ new ∷ rows)) in
    let now = some_cell (cell_of r.cells c.0) t.0 in
    let one = one_written w m done r rows c.0 now.0 c.1 v at now.1 g.0 in
    let rest = cells_written next m done new rows cells (subst IsValid one.is one.valid) (list_at_same nat_cmp_total w.tables m (done ++ new ∷ rows)) (still_each r.cells c.0 c.1 (kinds_in cells) t.1) g.1 in
    written_on w m (done ++ new ∷ rows) (done ++ with_cells new cells ∷ rows) (set_cell w r.entity c.0 c.1) (set_cells r.entity cells) one.is rest

-- ---- the cells of rows

-- rows are written over others: each over that of its entity, which has the kinds, with cells that pass
abbrev pub AreOver : (ℕ → Cell → Bool) → List Row → List Row → Type 0
AreOver p [] [] = Unit {0}
AreOver p (r ∷ rows) (x ∷ written) = (r.entity ≡ x.entity) × (has_each r.cells (kinds_in x.cells) ≡ true) × (list_all (λ c. p c.0 c.1) x.cells ≡ true) × AreOver p rows written
AreOver p rows written = ⊥

pub rows_written : (w : World) (m : ℕ) (done rows written : List Row) → IsValid w → rows_at w.tables m ≡ done ++ rows → AreOver (is_good_cell w) rows written
    → IsWritten w m (done ++ rows_with_rows rows written) (set_rows written w)
rows_written w m done [] [] v at over = same_written w m (done ++ []) v at
rows_written w m done [] (x ∷ written) v at over = absurd over
rows_written w m done (r ∷ rows) [] v at over = absurd over
rows_written w m done (r ∷ rows) (x ∷ written) v at over =
    let new = with_cells r x.cells in
    let after = rows_with_rows rows written in
    let next = with_tables w (with_rows w.tables m (done ++ new ∷ rows)) in
    let one : IsWritten w m (done ++ new ∷ rows) (set_cells x.entity x.cells w) =
    subst (λ e. IsWritten w m (done ++ new ∷ rows) (set_cells e x.cells w)) over.0 (cells_written w m done r rows x.cells v at over.1 over.2) in
    let there : rows_at next.tables m ≡ (done ++ new ∷ []) ++ rows = list_at_same nat_cmp_total w.tables m (done ++ new ∷ rows) ∙ one_done done new rows in
    let rest = rows_written next m (done ++ new ∷ []) rows written (subst IsValid one.is one.valid) there over.3 in
    written_on w m (done ++ new ∷ rows) (done ++ new ∷ after) (set_cells x.entity x.cells w) (set_rows written) one.is
    (subst (λ rs. IsWritten next m rs (set_rows written next)) (sym (one_done done new after)) rest)

-- ---- those of a run

abbrev entities_in : List Row → List Entity
entities_in rows = map (λ (row : Row). row.entity) rows

first_entity : (e f : Entity) (es fs : List Entity) → e ∷ es ≡ f ∷ fs → e ≡ f
first_entity e f es fs h = cc

rest_entities : (e f : Entity) (es fs : List Entity) → e ∷ es ≡ f ∷ fs → es ≡ fs
rest_entities e f es fs h = cc

over_each : (p : ℕ → Cell → Bool) (ks : List ℕ) (rows written : List Row) → entities_in rows ≡ entities_in written → All (λ (x : Row). kinds_in x.cells ≡ ks) written
    → All (λ (r : Row). has_each r.cells ks ≡ true) rows → All (λ (x : Row). list_all (λ c. p c.0 c.1) x.cells ≡ true) written → AreOver p rows written
over_each p ks [] [] same kinds there good = tt
over_each p ks [] (x ∷ written) same kinds there good = absurd (let h : [] ≡ x.entity ∷ entities_in written = same in cc)
over_each p ks (r ∷ rows) [] same kinds there good = absurd (let h : r.entity ∷ entities_in rows ≡ [] = same in cc)
over_each p ks (r ∷ rows) (x ∷ written) same kinds there good = (
  first_entity r.entity x.entity (entities_in rows) (entities_in written) same,
  ap (has_each r.cells) (kinds 0 x (omega arith)) ∙ there 0 r (omega arith),
  good 0 x (omega arith),
  over_each p ks rows written (rest_entities r.entity x.entity (entities_in rows) (entities_in written) same)
      (λ k d l. kinds (suc k) d (omega arith)) (λ k d l. there (suc k) d (omega arith)) (λ k d l. good (suc k) d (omega arith)),
)

some_added : (o : Option Cell) (tick : ℕ) → option_map (λ (c : Cell). c.added) o ≡ Some tick → is_some o ≡ true
some_added None tick h = absurd (let k : None ≡ Some tick = h in cc)
some_added (Some c) tick h = refl

first_tick : (a b : Option ℕ) (xs ys : List (Option ℕ)) → a ∷ xs ≡ b ∷ ys → a ≡ b
first_tick a b xs ys h = cc

rest_ticks : (a b : Option ℕ) (xs ys : List (Option ℕ)) → a ∷ xs ≡ b ∷ ys → xs ≡ ys
rest_ticks a b xs ys h = cc

-- rows that have the added ticks of a kind have the kind
pub kind_there : (rows : List Row) (kind : ℕ) (ticks : List ℕ) → added_in rows kind ≡ map (λ (tick : ℕ). Some tick) ticks → All (λ (r : Row). is_some (cell_of r.cells kind) ≡ true) rows
kind_there [] kind ticks e k d l = absurd (omega arith)
kind_there (r ∷ rows) kind [] e k d l = absurd (let h : option_map (λ (c : Cell). c.added) (cell_of r.cells kind) ∷ added_in rows kind ≡ [] = e in cc)
kind_there (r ∷ rows) kind (t ∷ ticks) e zero d l =
    some_added (cell_of r.cells kind) t (first_tick (option_map (λ (c : Cell). c.added) (cell_of r.cells kind)) (Some t) (added_in rows kind) (map (λ (tick : ℕ). Some tick) ticks) e)
kind_there (r ∷ rows) kind (t ∷ ticks) e (suc k) d l =
    kind_there rows kind ticks (rest_ticks (option_map (λ (c : Cell). c.added) (cell_of r.cells kind)) (Some t) (added_in rows kind) (map (λ (tick : ℕ). Some tick) ticks) e) k d (omega arith)

pub kinds_there : (rows : List Row) (columns : List RunColumn) → All (λ (c : RunColumn). added_in rows c.kind ≡ map (λ (tick : ℕ). Some tick) c.added.items) columns
    → All (λ (r : Row). has_each r.cells (map (λ (c : RunColumn). c.kind) columns) ≡ true) rows
kinds_there rows [] added k d l = refl
kinds_there rows (c ∷ columns) added k d l =
    and_from (is_some (cell_of (get_or rows k d).cells c.kind)) (has_each (get_or rows k d).cells (map (λ (c : RunColumn). c.kind) columns))
    (kind_there rows c.kind c.added.items (added 0 c (omega arith)) k d l)
    (kinds_there rows columns (λ n e m. added (suc n) e (omega arith)) k d l)

pub run_written : (w : World) (run : RunState) (turns : ℤ) (changed : Changed) → IsValid w → AreLongFor run.entities run.columns → CanPutRun w run turns changed
    → IsWritten w run.mask (rows_with_rows (rows_at w.tables run.mask) (rows_after run turns changed)) (with_run w run turns changed)
run_written w run turns changed v long can =
    let rows = rows_at w.tables run.mask in
    let columns = columns_after 0 run.columns turns changed in
    let ticks = columns_long 0 run.columns run.entities turns changed long
    (λ k c there. ap (λ n. length (changed_of changed n (length run.entities))) (omega arith) ∙ can.ticks k c there) in
    rows_written w run.mask [] rows (rows_after run turns changed) v refl
    (over_each (is_good_cell w) (map (λ (c : RunColumn). c.kind) run.columns) rows (rows_after run turns changed)
    (sym can.rows ∙ sym (entities_of run.entities columns ticks))
    (λ k d l. row_kinds run.entities columns k d l ∙ kinds_run 0 run.columns turns changed)
    (kinds_there rows run.columns can.added) can.good)

pub runs_are_cells : RunsAreCells
runs_are_cells w run turns changed v long can = (run_written w run turns changed v long can).is

pub runs_keep : RunsKeep
runs_keep w run turns changed v long can = (run_written w run turns changed v long can).valid
