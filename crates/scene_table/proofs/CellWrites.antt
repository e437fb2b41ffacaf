-- Cells that are written one after another, row by row, are the rows written at once.
use Rattle.std.proofs.Common.{◌≡◌, ◌<◌, ◌+◌, ℕ, suc, pos, ◌+ℤ◌, List, [], ◌∷◌, ◌++◌, length, get_or, map, refl, ap, sym, subst, ◌∙◌, arith, true, false, Bool, T, cond, Option, Some, None}
use Rattle.std.specs.Prelude.{All, slice_get, slice_set, is_some}
use Rattle.std.specs.Option.{option_map, option_or, unwrap_or}
use Rattle.std.specs.Ordering.{nat_cmp, eq_by_cmp}
use Rattle.std.specs.Cmp.{nat_cmp_total}
use Rattle.std.specs.List.{list_any}
use Rattle.std.specs.FinMap.Entries.{is_sorted-where_key, find-where_key, is_some-find, same_entries}
use Rattle.std.proofs.Math.Seq.{set-append_seam}
use Rattle.std.proofs.lemmas.List.{length-append, map-append}
use Rattle.std.proofs.lemmas.Option.{slice_get-get_or, slice_get-map}
use Rattle.scene_kinds.specs.Cells.{IsAscending, cell_of}
use Rattle.scene_kinds.specs.declared.entity.Entity.{Entity}
use Rattle.scene_kinds.specs.declared.cell.Cell.{Cell}
use Rattle.scene_kinds.specs.declared.cells.Row.{Row}
use Rattle.scene_kinds.proofs.CellLaws.{ascending-with_cell, cell_of-with_cell}
use Rattle.scene_table.specs.Columns.{kinds_in, kinds_of, rises}
use Rattle.scene_table.specs.Table.{row_with_cell, rows_with_cell}
use Rattle.scene_table.specs.Tables.{row_place}
use Rattle.scene_table.specs.RowStep.{is_written}
use Rattle.scene_table.specs.declared.row_step.RowStep.{RowStep}
use Rattle.scene_table.specs.Runs.{AreLongFor, IsTurn, Same, TurnState, cells_both, columns_after, rows_after_turn, rows_before_turn, rows_both, rows_with_rows, with_cells, written_cells}
use Rattle.scene_table.specs.CellWrites.{AreOnce, CellsAreRows, RunGoesOn, TurnComesBack, TurnIsCells, TurnIsTakenBack, TurnWasCells, TurnWritesSteps, rows_with_cell_of, set_cells_at, set_cells_back, set_cells_of, set_rows_from}
use Rattle.scene_table.proofs.RowsWithCells.{ascending-with_cells, cell_of-with_cells, with_cells-entity}
use Rattle.scene_table.proofs.GoesOn.{goes_on, row_ascends, turn_writes_steps as writes_steps}
use Rattle.scene_table.proofs.Homes.{place_found, place_missed}
use Rattle.scene_table.proofs.CellsOfTurn.{kinds_run}
use Rattle.scene_table.proofs.KindLists.{rises_is, same_key}
use Rattle.scene_table.proofs.TableRows.{entities_of, row_kinds}
use Rattle.scene_table.proofs.TurnCells.{columns_after_long, columns_before_long}

-- ---- by place

get_seam : {X : Type 0} (done : List X) (x : X) (xs : List X) → slice_get (done ++ x ∷ xs) (length done) ≡ Some x
get_seam [] x xs = refl
get_seam (d ∷ done) x xs = get_seam done x xs

-- one cell of the row behind those that are done
pub cell_set : (done : List Row) (r : Row) (rows : List Row) (kind : ℕ) (cell : Cell) → rows_with_cell (done ++ r ∷ rows) (length done) kind cell ≡ done ++ row_with_cell r kind cell ∷ rows
cell_set done r rows kind cell =
    ap (λ o. unwrap_or (option_map (λ (row : Row). slice_set (done ++ r ∷ rows) (length done) (row_with_cell row kind cell)) o) (done ++ r ∷ rows)) (get_seam done r rows)
    ∙ set-append_seam done r rows (row_with_cell r kind cell)

pub cells_set : (done : List Row) (r : Row) (rows : List Row) (cells : List (ℕ × Cell)) → set_cells_at (done ++ r ∷ rows) (length done) cells ≡ done ++ with_cells r cells ∷ rows
cells_set done r rows [] = refl
cells_set done r rows (c ∷ cells) = ap (λ rs. set_cells_at rs (length done) cells) (cell_set done r rows c.0 c.1) ∙ cells_set done (row_with_cell r c.0 c.1) rows cells

one_done : (done : List Row) (r : Row) (rows : List Row) → done ++ r ∷ rows ≡ (done ++ r ∷ []) ++ rows
one_done [] r rows = refl
one_done (d ∷ done) r rows = ap (λ t. d ∷ t) (one_done done r rows)

pub rows_set_from : (done rows written : List Row) → length written ≡ length rows → set_rows_from (length done) (done ++ rows) written ≡ done ++ rows_with_rows rows written
rows_set_from done [] [] e = refl
rows_set_from done [] (w ∷ written) e = absurd (omega arith)
rows_set_from done (r ∷ rows) [] e = absurd (omega arith)
rows_set_from done (r ∷ rows) (w ∷ written) e =
    let new = with_cells r w.cells in
    let more : length done + 1 ≡ length (done ++ new ∷ []) = omega (arith, length-append done (new ∷ [])) in
    (λ i. set_rows_from (more i) ((cells_set done r rows w.cells ∙ one_done done new rows) i) written)
    ∙ rows_set_from (done ++ new ∷ []) rows written (omega arith)
    ∙ sym (one_done done new (rows_with_rows rows written))

pub cells_are_rows : CellsAreRows
cells_are_rows rows written e = rows_set_from [] rows written e

-- ---- by entity

-- the cells of a row, and of rows, with their entities
abbrev pub cells_with : Entity → List (ℕ × Cell) → List (Entity × ℕ × Cell)
cells_with e cells = map (λ c. (e, c.0, c.1)) cells

abbrev pub flat_cells : List Row → List (Entity × ℕ × Cell)
flat_cells [] = []
flat_cells (w ∷ written) = cells_with w.entity w.cells ++ flat_cells written

pub set_more : (rows : List Row) (xs ys : List (Entity × ℕ × Cell)) → set_cells_of rows (xs ++ ys) ≡ set_cells_of (set_cells_of rows xs) ys
set_more rows [] ys = refl
set_more rows (x ∷ xs) ys = set_more (rows_with_cell_of rows x.0 x.1 x.2) xs ys

abbrev pub entities_in : List Row → List Entity
entities_in rows = map (λ (row : Row). row.entity) rows

-- an entity that is once among rows stands where it is
pub place_once : (e : Entity) (rows : List Row) (at : ℕ) (r : Row) → AreOnce (entities_in rows) → slice_get rows at ≡ Some r → r.entity ≡ e → row_place e rows ≡ Some at
place_once e rows at r once there same = elim (row_place e rows) as (λ o. row_place e rows ≡ o → o ≡ Some at) [
  | None ↦ λ t. absurd (place_missed e rows t at (record { row = r; there = there; same = same }))
  | Some i ↦ λ t.
      let h = place_found e rows i t in
      let here : slice_get (entities_in rows) i ≡ Some e = slice_get-map (λ (row : Row). row.entity) rows i ∙ ap (option_map (λ (row : Row). row.entity)) h.there ∙ ap (λ (x : Entity). Some x) h.same in
      let own : slice_get (entities_in rows) at ≡ Some e = slice_get-map (λ (row : Row). row.entity) rows at ∙ ap (option_map (λ (row : Row). row.entity)) there ∙ ap (λ (x : Entity). Some x) same in
      ap (λ (k : ℕ). Some k) (once i at e here own)
] refl

same_entities : (done : List Row) (r s : Row) (rows : List Row) → r.entity ≡ s.entity → entities_in (done ++ r ∷ rows) ≡ entities_in (done ++ s ∷ rows)
same_entities [] r s rows e = ap (λ (x : Entity). x ∷ entities_in rows) e
same_entities (d ∷ done) r s rows e = ap (λ t. d.entity ∷ t) (same_entities done r s rows e)

pub row_of_entity : (done : List Row) (r : Row) (rows : List Row) (e : Entity) (cells : List (ℕ × Cell)) → AreOnce (entities_in (done ++ r ∷ rows)) → r.entity ≡ e
    → set_cells_of (done ++ r ∷ rows) (cells_with e cells) ≡ done ++ with_cells r cells ∷ rows
row_of_entity done r rows e [] once same = refl
row_of_entity done r rows e (c ∷ cells) once same =
    let new = row_with_cell r c.0 c.1 in
    let place = place_once e (done ++ r ∷ rows) (length done) r once (get_seam done r rows) same in
    ap (λ o. set_cells_of (unwrap_or (option_map (λ at. rows_with_cell (done ++ r ∷ rows) at c.0 c.1) o) (done ++ r ∷ rows)) (cells_with e cells)) place
    ∙ ap (λ rs. set_cells_of rs (cells_with e cells)) (cell_set done r rows c.0 c.1)
    ∙ row_of_entity done new rows e cells (subst AreOnce (same_entities done r new rows refl) once) same

first_entity : (e f : Entity) (es fs : List Entity) → e ∷ es ≡ f ∷ fs → e ≡ f
first_entity e f es fs h = cc

rest_entities : (e f : Entity) (es fs : List Entity) → e ∷ es ≡ f ∷ fs → es ≡ fs
rest_entities e f es fs h = cc

pub rows_of_entities : (done rows written : List Row) → AreOnce (entities_in (done ++ rows)) → entities_in rows ≡ entities_in written → set_cells_of (done ++ rows) (flat_cells written) ≡ done ++ rows_with_rows rows written
rows_of_entities done [] [] once same = refl
rows_of_entities done [] (w ∷ written) once same = absurd (let h : [] ≡ w.entity ∷ entities_in written = same in cc)
rows_of_entities done (r ∷ rows) [] once same = absurd (let h : r.entity ∷ entities_in rows ≡ [] = same in cc)
rows_of_entities done (r ∷ rows) (w ∷ written) once same =
    let new = with_cells r w.cells in
    let own = row_of_entity done r rows w.entity w.cells once (first_entity r.entity w.entity (entities_in rows) (entities_in written) same) in
    set_more (done ++ r ∷ rows) (cells_with w.entity w.cells) (flat_cells written)
    ∙ ap (λ rs. set_cells_of rs (flat_cells written)) (own ∙ one_done done new rows)
    ∙ rows_of_entities (done ++ new ∷ []) rows written
    (subst AreOnce (same_entities done r new rows (with_cells-entity r w.cells) ∙ ap entities_in (one_done done new rows)) once)
    (rest_entities r.entity w.entity (entities_in rows) (entities_in written) same)
    ∙ sym (one_done done new (rows_with_rows rows written))

-- ---- the cells of a turn

-- rows of the same entities with the same kinds
abbrev pub Alike : List Row → List Row → Type 0
Alike [] [] = Unit {0}
Alike (b ∷ before) (a ∷ after) = (b.entity ≡ a.entity) × (kinds_in b.cells ≡ kinds_in a.cells) × Alike before after
Alike before after = ⊥

alike_each : (before after : List Row) (ks : List ℕ) → entities_in before ≡ entities_in after → ((k : ℕ) (d : Row) → k < length before → kinds_in (get_or before k d).cells ≡ ks)
    → ((k : ℕ) (d : Row) → k < length after → kinds_in (get_or after k d).cells ≡ ks) → Alike before after
alike_each [] [] ks e p q = tt
alike_each [] (a ∷ after) ks e p q = absurd (let h : [] ≡ a.entity ∷ entities_in after = e in cc)
alike_each (b ∷ before) [] ks e p q = absurd (let h : b.entity ∷ entities_in before ≡ [] = e in cc)
alike_each (b ∷ before) (a ∷ after) ks e p q = (
  first_entity b.entity a.entity (entities_in before) (entities_in after) e,
  p 0 b (omega arith) ∙ sym (q 0 a (omega arith)),
  alike_each before after ks (rest_entities b.entity a.entity (entities_in before) (entities_in after) e) (λ k d l. p (suc k) d (omega arith)) (λ k d l. q (suc k) d (omega arith)),
)

first_kind : (j k : ℕ) (js ks : List ℕ) → j ∷ js ≡ k ∷ ks → j ≡ k
first_kind j k js ks e = cc

rest_kinds : (j k : ℕ) (js ks : List ℕ) → j ∷ js ≡ k ∷ ks → js ≡ ks
rest_kinds j k js ks e = cc

both_before : (e : Entity) (before after : List (ℕ × Cell)) → kinds_in before ≡ kinds_in after → map (λ c. (c.0, c.1, c.2)) (cells_both e before after) ≡ cells_with e before
both_before e [] after h = refl
both_before e (b ∷ before) [] h = absurd (let g : b.0 ∷ kinds_in before ≡ [] = h in cc)
both_before e (b ∷ before) (a ∷ after) h = ap (λ t. (e, b.0, b.1) ∷ t) (both_before e before after (rest_kinds b.0 a.0 (kinds_in before) (kinds_in after) h))

both_after : (e : Entity) (before after : List (ℕ × Cell)) → kinds_in before ≡ kinds_in after → map (λ c. (c.0, c.1, c.3)) (cells_both e before after) ≡ cells_with e after
both_after e [] [] h = refl
both_after e [] (a ∷ after) h = absurd (let g : [] ≡ a.0 ∷ kinds_in after = h in cc)
both_after e (b ∷ before) [] h = absurd (let g : b.0 ∷ kinds_in before ≡ [] = h in cc)
both_after e (b ∷ before) (a ∷ after) h =
    λ i. (e, first_kind b.0 a.0 (kinds_in before) (kinds_in after) h i, a.1) ∷ both_after e before after (rest_kinds b.0 a.0 (kinds_in before) (kinds_in after) h) i

flat_before : (before after : List Row) → Alike before after → map (λ c. (c.0, c.1, c.2)) (rows_both before after) ≡ flat_cells before
flat_before [] [] h = refl
flat_before [] (a ∷ after) h = absurd h
flat_before (b ∷ before) [] h = absurd h
flat_before (b ∷ before) (a ∷ after) h =
    map-append (λ c. (c.0, c.1, c.2)) (cells_both b.entity b.cells a.cells) (rows_both before after)
    ∙ (λ i. both_before b.entity b.cells a.cells h.1 i ++ flat_before before after h.2 i)

flat_after : (before after : List Row) → Alike before after → map (λ c. (c.0, c.1, c.3)) (rows_both before after) ≡ flat_cells after
flat_after [] [] h = refl
flat_after [] (a ∷ after) h = absurd h
flat_after (b ∷ before) [] h = absurd h
flat_after (b ∷ before) (a ∷ after) h =
    map-append (λ c. (c.0, c.1, c.3)) (cells_both b.entity b.cells a.cells) (rows_both before after)
    ∙ (λ i. (both_after b.entity b.cells a.cells h.1 ∙ ap (λ e. cells_with e a.cells) h.0) i ++ flat_after before after h.2 i)

turn_alike : (t : TurnState) → AreLongFor t.run.entities t.run.columns → IsTurn t → Alike (rows_before_turn t) (rows_after_turn t)
turn_alike t long is =
    let before = columns_after 0 t.run.columns t.turns t.before in
    let after = columns_after 0 t.run.columns (t.turns +ℤ pos 1) (Same t.tick) in
    alike_each (rows_before_turn t) (rows_after_turn t) (kinds_of before)
    (entities_of t.run.entities before (columns_before_long t long is) ∙ sym (entities_of t.run.entities after (columns_after_long t long)))
    (row_kinds t.run.entities before)
    (λ k d l. row_kinds t.run.entities after k d l ∙ kinds_run 0 t.run.columns (t.turns +ℤ pos 1) (Same t.tick) ∙ sym (kinds_run 0 t.run.columns t.turns t.before))

pub turn_is_cells : TurnIsCells
turn_is_cells rows t over =
    ap (set_cells_of rows) (flat_after (rows_before_turn t) (rows_after_turn t) (turn_alike t over.long over.is))
    ∙ rows_of_entities [] rows (rows_after_turn t) (subst AreOnce over.entities over.once)
    (sym over.entities ∙ sym (entities_of t.run.entities (columns_after 0 t.run.columns (t.turns +ℤ pos 1) (Same t.tick)) (columns_after_long t over.long)))

pub turn_was_cells : TurnWasCells
turn_was_cells rows t over =
    ap (set_cells_of rows) (flat_before (rows_before_turn t) (rows_after_turn t) (turn_alike t over.long over.is))
    ∙ rows_of_entities [] rows (rows_before_turn t) (subst AreOnce over.entities over.once)
    (sym over.entities ∙ sym (entities_of t.run.entities (columns_after 0 t.run.columns t.turns t.before) (columns_before_long t over.long over.is)))

-- ---- the last first

set_back_more : (rows : List Row) (xs ys : List (Entity × ℕ × Cell)) → set_cells_back rows (xs ++ ys) ≡ set_cells_back (set_cells_back rows ys) xs
set_back_more rows [] ys = refl
set_back_more rows (x ∷ xs) ys = ap (λ rs. rows_with_cell_of rs x.0 x.1 x.2) (set_back_more rows xs ys)

-- a row with cells, the last of them first
abbrev with_cells_back : Row → List (ℕ × Cell) → Row
with_cells_back row [] = row
with_cells_back row (c ∷ cells) = row_with_cell (with_cells_back row cells) c.0 c.1

with_cells_back-entity : (row : Row) (cells : List (ℕ × Cell)) → row.entity ≡ (with_cells_back row cells).entity
with_cells_back-entity row [] = refl
with_cells_back-entity row (c ∷ cells) = with_cells_back-entity row cells

ascending-with_cells_back : (row : Row) (cells : List (ℕ × Cell)) → IsAscending row.cells → IsAscending (with_cells_back row cells).cells
ascending-with_cells_back row [] up = up
ascending-with_cells_back row (c ∷ cells) up = ascending-with_cell (with_cells_back row cells).cells c.0 c.1 (ascending-with_cells_back row cells up)

cell_of-with_cells_back : (row : Row) (cells : List (ℕ × Cell)) (k : ℕ) → cell_of (with_cells_back row cells).cells k ≡ option_or (cell_of cells k) (cell_of row.cells k)
cell_of-with_cells_back row [] k = refl
cell_of-with_cells_back row (c ∷ cells) k =
    cell_of-with_cell (with_cells_back row cells).cells c.0 c.1 k
    ∙ ap (cond (eq_by_cmp nat_cmp k c.0) (Some c.1)) (cell_of-with_cells_back row cells k)
    ∙ elim (eq_by_cmp nat_cmp k c.0) as (λ b. cond b (Some c.1) (option_or (cell_of cells k) (cell_of row.cells k)) ≡ option_or (cond b (Some c.1) (cell_of cells k)) (cell_of row.cells k)) [
      | true ↦ refl
      | false ↦ refl
    ]

-- in which order cells that ascend are written is all one
pub same_back : (row : Row) (cells : List (ℕ × Cell)) → IsAscending row.cells → IsAscending cells → with_cells_back row cells ≡ with_cells row cells
same_back row cells up rising =
    let same = same_entries nat_cmp nat_cmp_total same_key (with_cells_back row cells).cells (with_cells row cells).cells (ascending-with_cells_back row cells up) (ascending-with_cells row cells up)
    (λ k. cell_of-with_cells_back row cells k ∙ sym (cell_of-with_cells row cells k rising)) in
    let entity = sym (with_cells_back-entity row cells) ∙ with_cells-entity row cells in
    λ i. record { entity = entity i; cells = same i }

row_set_back : (done : List Row) (r : Row) (rows : List Row) (e : Entity) (cells : List (ℕ × Cell)) → AreOnce (entities_in (done ++ r ∷ rows)) → r.entity ≡ e
    → set_cells_back (done ++ r ∷ rows) (cells_with e cells) ≡ done ++ with_cells_back r cells ∷ rows
row_set_back done r rows e [] once same = refl
row_set_back done r rows e (c ∷ cells) once same =
    let new = with_cells_back r cells in
    let all = done ++ new ∷ rows in
    let own = sym (with_cells_back-entity r cells) in
    let place = place_once e all (length done) new (subst AreOnce (same_entities done r new rows (sym own)) once) (get_seam done new rows) (own ∙ same) in
    ap (λ rs. rows_with_cell_of rs e c.0 c.1) (row_set_back done r rows e cells once same)
    ∙ ap (λ o. unwrap_or (option_map (λ at. rows_with_cell all at c.0 c.1) o) all) place
    ∙ cell_set done new rows c.0 c.1

-- rows that are written are of the entities that they were
same_rows_entities : (rows written : List Row) → entities_in rows ≡ entities_in written → entities_in rows ≡ entities_in (rows_with_rows rows written)
same_rows_entities [] written same = refl
same_rows_entities (r ∷ rows) [] same = absurd (let h : r.entity ∷ entities_in rows ≡ [] = same in cc)
same_rows_entities (r ∷ rows) (w ∷ written) same =
    λ i. with_cells-entity r w.cells i ∷ same_rows_entities rows written (rest_entities r.entity w.entity (entities_in rows) (entities_in written) same) i

entities_more : (done xs : List Row) → entities_in (done ++ xs) ≡ entities_in done ++ entities_in xs
entities_more done xs = map-append (λ (row : Row). row.entity) done xs

pub rows_set_back : (done rows written : List Row) → AreOnce (entities_in (done ++ rows)) → entities_in rows ≡ entities_in written → All (λ (row : Row). IsAscending row.cells) rows → All (λ (row : Row). IsAscending row.cells) written
    → set_cells_back (done ++ rows) (flat_cells written) ≡ done ++ rows_with_rows rows written
rows_set_back done [] [] once same up rising = refl
rows_set_back done [] (w ∷ written) once same up rising = absurd (let h : [] ≡ w.entity ∷ entities_in written = same in cc)
rows_set_back done (r ∷ rows) [] once same up rising = absurd (let h : r.entity ∷ entities_in rows ≡ [] = same in cc)
rows_set_back done (r ∷ rows) (w ∷ written) once same up rising =
    let rest = rows_with_rows rows written in
    let others = rest_entities r.entity w.entity (entities_in rows) (entities_in written) same in
    let behind = rows_set_back (done ++ r ∷ []) rows written (subst AreOnce (ap entities_in (one_done done r rows)) once) others (λ k d l. up (suc k) d (omega arith)) (λ k d l. rising (suc k) d (omega arith)) in
    let now_once = subst AreOnce (entities_more done (r ∷ rows) ∙ ap (λ es. entities_in done ++ r.entity ∷ es) (same_rows_entities rows written others) ∙ sym (entities_more done (r ∷ rest))) once in
    set_back_more (done ++ r ∷ rows) (cells_with w.entity w.cells) (flat_cells written)
    ∙ ap (λ rs. set_cells_back rs (cells_with w.entity w.cells)) (ap (λ rs. set_cells_back rs (flat_cells written)) (one_done done r rows) ∙ behind ∙ sym (one_done done r rest))
    ∙ row_set_back done r rest w.entity w.cells now_once (first_entity r.entity w.entity (entities_in rows) (entities_in written) same)
    ∙ ap (λ x. done ++ x ∷ rest) (same_back r w.cells (up 0 r (omega arith)) (rising 0 w (omega arith)))

pub turn_is_taken_back : TurnIsTakenBack
turn_is_taken_back rows t over are up =
    ap (set_cells_back rows) (flat_before (rows_before_turn t) (rows_after_turn t) (turn_alike t over.long over.is))
    ∙ rows_set_back [] rows (rows_before_turn t) (subst AreOnce over.entities over.once)
    (sym over.entities ∙ sym (entities_of t.run.entities (columns_after 0 t.run.columns t.turns t.before) (columns_before_long t over.long over.is))) up
    (λ k d l. row_ascends t.run.steps t.run.entities t.run.columns t.turns t.before are k (get_or (rows_before_turn t) k d) (slice_get-get_or (rows_before_turn t) k d l))

-- ---- what was there comes back

picked : (w c r : Option Cell) (b : Bool) → w ≡ cond b r None → is_some c ≡ is_some w → option_or w (option_or c r) ≡ r
picked (Some x) c r true e f = e
picked None None r true e f = refl
picked None (Some y) r true e f = absurd (let g : true ≡ false = f in cc)
picked (Some x) c r false e f = absurd (let g : Some x ≡ None = e in cc)
picked None None r false e f = refl
picked None (Some y) r false e f = absurd (let g : true ≡ false = f in cc)

pub row_comes_back : (steps : List RowStep) (row : Row) (cells : List (ℕ × Cell)) → IsAscending row.cells → kinds_in (written_cells steps row).cells ≡ kinds_in cells
    → with_cells (with_cells row cells) (written_cells steps row).cells ≡ row
row_comes_back steps row cells up kinds =
    let own = (written_cells steps row).cells in
    let rising : IsAscending own = is_sorted-where_key nat_cmp (is_written steps) row.cells up in
    let rising_too : IsAscending cells = subst T (sym (rises_is own) ∙ ap rises kinds ∙ rises_is cells) rising in
    let mid = with_cells row cells in
    let all = with_cells mid own in
    let found : (k : ℕ) → cell_of all.cells k ≡ cell_of row.cells k = λ k.
    cell_of-with_cells mid own k rising ∙ ap (option_or (cell_of own k)) (cell_of-with_cells row cells k rising_too)
    ∙ picked (cell_of own k) (cell_of cells k) (cell_of row.cells k) (is_written steps k)
    (find-where_key nat_cmp (is_written steps) k (λ x t. ap (is_written steps) (sym (same_key k x t))) row.cells)
    (is_some-find nat_cmp k cells ∙ ap (list_any (eq_by_cmp nat_cmp k)) (sym kinds) ∙ sym (is_some-find nat_cmp k own)) in
    let same = same_entries nat_cmp nat_cmp_total same_key all.cells row.cells (ascending-with_cells mid own (ascending-with_cells row cells up)) up found in
    let entity = with_cells-entity row cells ∙ with_cells-entity mid own in
    λ i. record { entity = sym entity i; cells = same i }

pub rows_come_back : (steps : List RowStep) (rows after : List Row) → All (λ (row : Row). IsAscending row.cells) rows → Alike (map (written_cells steps) rows) after
    → rows_with_rows (rows_with_rows rows after) (map (written_cells steps) rows) ≡ rows
rows_come_back steps [] [] up h = refl
rows_come_back steps [] (a ∷ after) up h = absurd h
rows_come_back steps (r ∷ rows) [] up h = absurd h
rows_come_back steps (r ∷ rows) (a ∷ after) up h =
    λ i. row_comes_back steps r a.cells (up 0 r (omega arith)) h.1 i ∷ rows_come_back steps rows after (λ k d l. up (suc k) d (omega arith)) h.2 i

pub turn_comes_back : TurnComesBack
turn_comes_back rows t is long up goes =
    ap (rows_with_rows (rows_with_rows rows (rows_after_turn t))) goes.now
    ∙ rows_come_back t.run.steps rows (rows_after_turn t) up (subst (λ (before : List Row). Alike before (rows_after_turn t)) goes.now (turn_alike t long is))

pub run_goes_on : RunGoesOn
run_goes_on rows run turns before up apart are long stands ticks fits = goes_on rows run turns before up apart are long stands ticks fits

pub turn_writes_steps : TurnWritesSteps
turn_writes_steps rows run turns before tick up apart are long stands ticks fits = writes_steps rows run turns before up apart are long stands ticks fits tick
