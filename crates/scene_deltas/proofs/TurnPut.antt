-- Where the deltas of a turn fit, the rows of its table have the added ticks of its run, and each of its cells may stand
-- there: what a run asks for that is put over the rows.
use Rattle.std.proofs.Common.{◌≡◌, ◌<◌, ◌<ℤ◌, ◌^◌, FitsSigned, of_z, to_z, w64, ℕ, zero, suc, ℤ, pos, ◌+ℤ◌, Bool, true, false, T, List, [], ◌∷◌, ◌++◌, ◌&&◌, length, get_or, map, refl, ap, sym, subst, ◌∙◌, arith, cond, Option, Some, None}
use Rattle.std.specs.Prelude.{All, nat_eq, option_map, slice_get, slice_set}
use Rattle.std.specs.Option.{option_or, unwrap_or}
use Rattle.std.specs.List.{AllByRecursion, list_all}
use Rattle.std.specs.Ordering.{nat_cmp, eq_by_cmp}
use Rattle.std.specs.Cmp.{nat_cmp_total}
use Rattle.std.specs.FinMap.{nat_cmp-IsAntisymmetric}
use Rattle.std.specs.declared.cmp.Ordering.TheVariants.{Less}
use Rattle.std.proofs.lemmas.Cmp.{ranked}
use Rattle.std.proofs.lemmas.Int.{to_z-of_z}
use Rattle.std.proofs.lemmas.List.{length-replicate}
use Rattle.std.proofs.lemmas.List.Elements.{All-from_recursion}
use Rattle.std.proofs.lemmas.Option.{slice_get-get_or}
use Rattle.scene_kinds.specs.declared.cell.Cell.{Cell}
use Rattle.scene_kinds.specs.declared.cells.Row.{Row}
use Rattle.scene_kinds.specs.declared.entity.Entity.{Entity}
use Rattle.scene_kinds.specs.Cells.{IsAscending, cell_of, with_cell}
use Rattle.scene_kinds.specs.KindSet.{KindSet}
use Rattle.scene_kinds.proofs.CellLaws.{cell_of-with_cell}
use Rattle.scene_kinds.proofs.Choices.{test_parts, less}
use Rattle.scene_kinds.proofs.Lists.{list_at_same}
use Rattle.scene_kinds.proofs.Maps.{equal_keys}
use Rattle.scene_table.specs.declared.home.Home.{Home}
use Rattle.scene_table.specs.declared.run.RunColumn.{RunColumn}
use Rattle.scene_table.specs.CellWrites.{rows_with_cell_of, set_cells_back, set_cells_of}
use Rattle.scene_table.specs.Columns.{AreLong, ColumnState, is_below, kinds_in, kinds_of, rises, rows_of}
use Rattle.scene_table.specs.Runs.{Changed, RunState, Same, TurnState, added_in, cells_both, cells_of_turn, columns_after, rows_after_turn, rows_before_turn, rows_both, rows_with_rows}
use Rattle.scene_table.specs.Table.{row_with_cell, rows_with_cell}
use Rattle.scene_table.specs.Tables.{rows_at, row_place}
use Rattle.scene_table.proofs.CellWrites.{entities_in, turn_is_cells, turn_is_taken_back}
use Rattle.scene_table.proofs.CellsOfTurn.{kinds_run, next_fits}
use Rattle.scene_table.proofs.GoesOn.{row_ascends}
use Rattle.scene_table.proofs.Homes.{HasAt, place_found}
use Rattle.scene_table.proofs.RowsWithCells.{cell_of-with_cells}
use Rattle.scene_table.proofs.TableRows.{kind_here, kind_later, rest_long, row_kinds, same_length}
use Rattle.scene_table.proofs.TurnCells.{columns_after_long, columns_before_long, rows_after_long, rows_before_long}
use Rattle.scene_model.specs.Can.{is_good_cell}
use Rattle.scene_model.specs.Raw.{cells_of, listed_cells}
use Rattle.scene_model.specs.RunRaw.{CanPutRun, with_run}
use Rattle.scene_model.specs.Valid.{IsValid}
use Rattle.scene_model.specs.World.{World}
use Rattle.scene_model.proofs.CanParts.{set_cell}
use Rattle.scene_model.proofs.RowOf.{row_stands}
use Rattle.scene_model.proofs.RunCells.{runs_are_cells}
use Rattle.scene_deltas.specs.declared.delta.Delta.TheVariants.{CellSet}
use Rattle.scene_deltas.specs.Deltas.{AllFitBack, AllFitOn, FitsBack, FitsOn, back_all, fwd_all}
use Rattle.scene_deltas.specs.Segments.{IsOverTable, turn_deltas}
use Rattle.scene_deltas.proofs.Asked.{cell_is_good}
use Rattle.scene_deltas.proofs.ComeBack.{delta_lists_come_back}
use Rattle.scene_deltas.proofs.TurnAdded.{AddedAs, AreKept, added_at, after_added, before_added, turn_keeps}
use Rattle.scene_deltas.proofs.TurnRows.{AreOf, Change, are_theirs, ascend, become, cells_back, deltas_for, is_over, next_on, next_world, same_table, turn_back, turn_on, were, with_table}

-- ---- the added ticks of rows of which cells are exchanged

map_set : {Y : Type 0} (f : Row → Y) (rows : List Row) (i : ℕ) (r s : Row) → slice_get rows i ≡ Some r → f s ≡ f r → map f (slice_set rows i s) ≡ map f rows
map_set f [] i r s there same = refl
map_set f (x ∷ rows) zero r s there same = let is : x ≡ r = cc in ap (λ y. y ∷ map f rows) (same ∙ ap f (sym is))
map_set f (x ∷ rows) (suc i) r s there same = ap (λ ys. f x ∷ ys) (map_set f rows i r s there same)

added_with : (cells : List (ℕ × Cell)) (kind k : ℕ) (was new : Cell) → cell_of cells kind ≡ Some was → new.added ≡ was.added → option_map added_at (cell_of (with_cell cells kind new) k) ≡ option_map added_at (cell_of cells k)
added_with cells kind k was new there same =
    ap (option_map added_at) (cell_of-with_cell cells kind new k)
    ∙ elim (eq_by_cmp nat_cmp k kind) as (λ b. eq_by_cmp nat_cmp k kind ≡ b → option_map added_at (cond b (Some new) (cell_of cells k)) ≡ option_map added_at (cell_of cells k)) [
      | true ↦ λ t. ap (λ (n : ℕ). Some n) same ∙ sym (ap (option_map added_at) (ap (cell_of cells) (equal_keys nat_cmp-IsAntisymmetric k kind t) ∙ there))
      | false ↦ λ t. refl
    ] refl

module _ (w : World) (mask : KindSet) (rows : List Row) (v : IsValid (with_table w mask rows)) (e : Entity) (kind : ℕ) (was new : Cell)
    (there : cell_of (cells_of (with_table w mask rows) e) kind ≡ Some was) (same : new.added ≡ was.added) where
  kept_at : (i : ℕ) → HasAt rows i e → (k : ℕ) → added_in (rows_with_cell rows i kind new) k ≡ added_in rows k
  kept_at i h k =
      let u = with_table w mask rows in
      let home : Home = record { mask = mask; place = i } in
      let row = ap listed_cells (row_stands u e home h.row v.rows.once (ap (λ (rs : List Row). slice_get rs i) (list_at_same nat_cmp_total w.tables mask rows) ∙ h.there) h.same) in
      ap (λ (o : Option Row). added_in (unwrap_or (option_map (λ (r : Row). slice_set rows i (row_with_cell r kind new)) o) rows) k) h.there
      ∙ map_set (λ (r : Row). option_map added_at (cell_of r.cells k)) rows i h.row (row_with_cell h.row kind new) h.there
      (added_with h.row.cells kind k was new (ap (λ cells. cell_of cells kind) (sym row) ∙ there) same)

  one_kept : (k : ℕ) → added_in (rows_with_cell_of rows e kind new) k ≡ added_in rows k
  one_kept k = elim (row_place e rows) as (λ o. row_place e rows ≡ o → added_in (unwrap_or (option_map (λ at. rows_with_cell rows at kind new) o) rows) k ≡ added_in rows k) [
    | None ↦ λ t. refl
    | Some i ↦ λ t. kept_at i (place_found e rows i t) k
  ] refl

back_kept : (w : World) (mask : KindSet) (cells : List Change) → IsValid w → AreOf (entities_in (rows_at w.tables mask)) cells → AllFitBack (deltas_for cells) w → AreKept cells
    → (k : ℕ) → added_in (set_cells_back (rows_at w.tables mask) (were cells)) k ≡ added_in (rows_at w.tables mask) k
back_kept w mask [] v among fit kept k = refl
back_kept w mask (c ∷ cells) v among fit kept k =
    let rows = set_cells_back (rows_at w.tables mask) (were cells) in
    let rest = cells_back w mask cells v among.1 fit.0 in
    let sound : IsValid (with_table w mask rows) = subst IsValid rest ((delta_lists_come_back (deltas_for cells)).1.keeps w v fit.0) in
    let fits : FitsBack (CellSet c.0 c.1 c.2 c.3) (with_table w mask rows) = subst (FitsBack (CellSet c.0 c.1 c.2 c.3)) rest fit.1 in
    one_kept w mask rows sound c.0 c.1 c.3 c.2 ((set_cell (with_table w mask rows) c.0 c.1 c.3 c.2).0 fits).now kept.0 k
    ∙ back_kept w mask cells v among.1 fit.0 kept.1 k

on_kept : (w : World) (mask : KindSet) (cells : List Change) → IsValid w → AreOf (entities_in (rows_at w.tables mask)) cells → AllFitOn (deltas_for cells) w → AreKept cells
    → (k : ℕ) → added_in (set_cells_of (rows_at w.tables mask) (become cells)) k ≡ added_in (rows_at w.tables mask) k
on_kept w mask [] v among fit kept k = refl
on_kept w mask (c ∷ cells) v among fit kept k =
    let rows = rows_at w.tables mask in
    let next = next_on w mask c cells v among fit in
    let own : FitsOn (CellSet c.0 c.1 c.2 c.3) (with_table w mask rows) = subst (FitsOn (CellSet c.0 c.1 c.2 c.3)) (same_table w mask) fit.0 in
    ap (λ (rs : List Row). added_in (set_cells_of rs (become cells)) k) (sym next.there)
    ∙ on_kept (next_world w mask c) mask cells next.sound next.still next.fit kept.1 k
    ∙ ap (λ (rs : List Row). added_in rs k) next.there
    ∙ one_kept w mask rows (subst IsValid (same_table w mask) v) c.0 c.1 c.2 c.3 ((set_cell (with_table w mask rows) c.0 c.1 c.2 c.3).0 own).now (sym kept.0) k

-- ---- cells that may stand in their rows

cells_good_back : (w : World) (mask : KindSet) (cells : List Change) → IsValid w → AreOf (entities_in (rows_at w.tables mask)) cells → AllFitBack (deltas_for cells) w
    → AllByRecursion (λ (c : Change). is_good_cell w c.1 c.2 ≡ true) cells
cells_good_back w mask [] v among fit = tt
cells_good_back w mask (c ∷ cells) v among fit =
    let u = with_table w mask (set_cells_back (rows_at w.tables mask) (were cells)) in
    let fits : FitsBack (CellSet c.0 c.1 c.2 c.3) u = subst (FitsBack (CellSet c.0 c.1 c.2 c.3)) (cells_back w mask cells v among.1 fit.0) fit.1 in
    (cell_is_good u c.0 c.1 c.3 c.2 fits, cells_good_back w mask cells v among.1 fit.0)

cells_good_on : (w : World) (mask : KindSet) (cells : List Change) → IsValid w → AreOf (entities_in (rows_at w.tables mask)) cells → AllFitOn (deltas_for cells) w
    → AllByRecursion (λ (c : Change). is_good_cell w c.1 c.3 ≡ true) cells
cells_good_on w mask [] v among fit = tt
cells_good_on w mask (c ∷ cells) v among fit =
    let next = next_on w mask c cells v among fit in
    (cell_is_good w c.0 c.1 c.2 c.3 fit.0, cells_good_on (next_world w mask c) mask cells next.sound next.still next.fit)

module _ (good : ℕ → Cell → Bool) where
  both_before : (e : Entity) (before after : List (ℕ × Cell)) (rest : List Change) → kinds_in before ≡ kinds_in after → AllByRecursion (λ (c : Change). good c.1 c.2 ≡ true) (cells_both e before after ++ rest)
      → (list_all (λ c. good c.0 c.1) before ≡ true) × AllByRecursion (λ (c : Change). good c.1 c.2 ≡ true) rest
  both_before e [] after rest same h = (refl, h)
  both_before e (b ∷ before) [] rest same h = absurd (cc)
  both_before e (b ∷ before) (a ∷ after) rest same h =
      let others : kinds_in before ≡ kinds_in after = cc in
      let more = both_before e before after rest others h.1 in
      ((λ i. h.0 i && more.0 i), more.1)

  both_after : (e : Entity) (before after : List (ℕ × Cell)) (rest : List Change) → kinds_in before ≡ kinds_in after → AllByRecursion (λ (c : Change). good c.1 c.3 ≡ true) (cells_both e before after ++ rest)
      → (list_all (λ c. good c.0 c.1) after ≡ true) × AllByRecursion (λ (c : Change). good c.1 c.3 ≡ true) rest
  both_after e [] [] rest same h = (refl, h)
  both_after e [] (a ∷ after) rest same h = absurd (cc)
  both_after e (b ∷ before) [] rest same h = absurd (cc)
  both_after e (b ∷ before) (a ∷ after) rest same h =
      let kind : b.0 ≡ a.0 = cc in
      let others : kinds_in before ≡ kinds_in after = cc in
      let more = both_after e before after rest others h.1 in
      ((λ i. (ap (λ n. good n a.1) (sym kind) ∙ h.0) i && more.0 i), more.1)

  rows_before : (before after : List Row) → map (λ (r : Row). kinds_in r.cells) before ≡ map (λ (r : Row). kinds_in r.cells) after → AllByRecursion (λ (c : Change). good c.1 c.2 ≡ true) (rows_both before after)
      → AllByRecursion (λ (r : Row). list_all (λ c. good c.0 c.1) r.cells ≡ true) before
  rows_before [] after same h = tt
  rows_before (b ∷ before) [] same h = absurd (cc)
  rows_before (b ∷ before) (a ∷ after) same h =
      let kinds : kinds_in b.cells ≡ kinds_in a.cells = cc in
      let others : map (λ (r : Row). kinds_in r.cells) before ≡ map (λ (r : Row). kinds_in r.cells) after = cc in
      let one = both_before b.entity b.cells a.cells (rows_both before after) kinds h in
      (one.0, rows_before before after others one.1)

  rows_after : (before after : List Row) → map (λ (r : Row). kinds_in r.cells) before ≡ map (λ (r : Row). kinds_in r.cells) after → AllByRecursion (λ (c : Change). good c.1 c.3 ≡ true) (rows_both before after)
      → AllByRecursion (λ (r : Row). list_all (λ c. good c.0 c.1) r.cells ≡ true) after
  rows_after [] [] same h = tt
  rows_after [] (a ∷ after) same h = absurd (cc)
  rows_after (b ∷ before) [] same h = absurd (cc)
  rows_after (b ∷ before) (a ∷ after) same h =
      let kinds : kinds_in b.cells ≡ kinds_in a.cells = cc in
      let others : map (λ (r : Row). kinds_in r.cells) before ≡ map (λ (r : Row). kinds_in r.cells) after = cc in
      let one = both_after b.entity b.cells a.cells (rows_both before after) kinds h in
      (one.0, rows_after before after others one.1)

-- the rows of a turn have the same kinds before it and after it
same_kinds : (xs ys : List Row) (ks : List ℕ) → length xs ≡ length ys → ((k : ℕ) (d : Row) → k < length xs → kinds_in (get_or xs k d).cells ≡ ks) → ((k : ℕ) (d : Row) → k < length ys → kinds_in (get_or ys k d).cells ≡ ks)
    → map (λ (r : Row). kinds_in r.cells) xs ≡ map (λ (r : Row). kinds_in r.cells) ys
same_kinds [] [] ks long p q = refl
same_kinds [] (y ∷ ys) ks long p q = absurd (omega (arith, long))
same_kinds (x ∷ xs) [] ks long p q = absurd (omega (arith, long))
same_kinds (x ∷ xs) (y ∷ ys) ks long p q =
    λ i. (p 0 x (omega arith) ∙ sym (q 0 y (omega arith))) i ∷ same_kinds xs ys ks (omega (arith, long)) (λ k d l. p (suc k) d (omega arith)) (λ k d l. q (suc k) d (omega arith)) i

-- ---- what rows have of a run that was put over them

-- a column of rows, by its kind
abbrev IsIn : List Entity → List ColumnState → ColumnState → Type 0
IsIn es ss s = map (λ (row : Row). cell_of row.cells s.kind) (rows_of es ss) ≡ map (λ (cell : Cell). Some cell) s.cells

later_in : (es : List Entity) (s : ColumnState) (all part : List ColumnState) → AreLong (length es) (s ∷ all) → T (is_below s.kind (kinds_of part)) → AllByRecursion (IsIn es all) part → AllByRecursion (IsIn es (s ∷ all)) part
later_in es s all [] long up h = tt
later_in es s all (p ∷ part) long up h =
    let both = test_parts _ _ up in
    let other : nat_eq p.kind s.kind ≡ false = unequal s.kind p.kind (ranked s.kind p.kind Less (sym (less _ both.0))) in
    (kind_later p.kind s.kind s.cells (rows_of es all) other (same_length es s all long) ∙ h.0, later_in es s all part long both.1 h.1)
  where
    unequal : (a b : ℕ) → a < b → nat_eq b a ≡ false
    unequal a b l = grind arith

columns_in : (es : List Entity) (ss : List ColumnState) → T (rises (kinds_of ss)) → AreLong (length es) ss → AllByRecursion (IsIn es ss) ss
columns_in es [] up long = tt
columns_in es (s ∷ ss) up long =
    let both = test_parts _ _ up in (
      kind_here s.kind s.kind s.cells (rows_of es ss) (same_kind s.kind) (same_length es s ss long),
      later_in es s ss ss long both.0 (columns_in es ss both.1 (rest_long (length es) s ss long)),
    )
  where
    same_kind : (a : ℕ) → nat_eq a a ≡ true
    same_kind a = grind arith

over_added : (rows written : List Row) (k : ℕ) (cells : List Cell) → length rows ≡ length written → All (λ (row : Row). IsAscending row.cells) written
    → map (λ (row : Row). cell_of row.cells k) written ≡ map (λ (cell : Cell). Some cell) cells → added_in (rows_with_rows rows written) k ≡ map (λ (n : ℕ). Some n) (map added_at cells)
over_added [] [] k [] long up h = refl
over_added [] [] k (c ∷ cells) long up h = absurd (cc)
over_added [] (x ∷ written) k cells long up h = absurd (omega (arith, long))
over_added (r ∷ rows) [] k cells long up h = absurd (omega (arith, long))
over_added (r ∷ rows) (x ∷ written) k [] long up h = absurd (cc)
over_added (r ∷ rows) (x ∷ written) k (c ∷ cells) long up h =
    let first : cell_of x.cells k ≡ Some c = cc in
    let others : map (λ (row : Row). cell_of row.cells k) written ≡ map (λ (cell : Cell). Some cell) cells = cc in
    λ i. (ap (option_map added_at) (cell_of-with_cells r x.cells k (up 0 x (omega arith)) ∙ ap (λ o. option_or o (cell_of r.cells k)) first)) i
    ∷ over_added rows written k cells (omega (arith, long)) (λ n d l. up (suc n) d (omega arith)) others i

each_added : (rows : List Row) (es : List Entity) (cs : List RunColumn) (ss all : List ColumnState) → length rows ≡ length (rows_of es all) → All (λ (row : Row). IsAscending row.cells) (rows_of es all) → AddedAs cs ss → AllByRecursion (IsIn es all) ss
    → AllByRecursion (λ (c : RunColumn). added_in (rows_with_rows rows (rows_of es all)) c.kind ≡ map (λ (tick : ℕ). Some tick) c.added.items) cs
each_added rows es [] [] all long up h k = tt
each_added rows es [] (s ∷ ss) all long up h k = absurd h
each_added rows es (c ∷ cs) [] all long up h k = absurd h
each_added rows es (c ∷ cs) (s ∷ ss) all long up h k = (
  ap (added_in (rows_with_rows rows (rows_of es all))) (sym h.0) ∙ over_added rows (rows_of es all) s.kind s.cells long up k.0 ∙ ap (map (λ (n : ℕ). Some n)) h.1,
  each_added rows es cs ss all long up h.2 k.1,
)

module _ (w : World) (t : TurnState) (stands : IsOverTable w t) where
  long_rows : length (rows_at w.tables t.run.mask) ≡ length t.run.entities
  long_rows = sym (ap length stands.entities ∙ count_entities (rows_at w.tables t.run.mask))
    where
      count_entities : (rows : List Row) → length (entities_in rows) ≡ length rows
      count_entities [] = refl
      count_entities (r ∷ rows) = ap (λ n. suc n) (count_entities rows)

  -- where a turn may be taken back, the rows have the added ticks of its run
  pub added_back : AllFitBack (turn_deltas t) w → All (λ (c : RunColumn). added_in (rows_at w.tables t.run.mask) c.kind ≡ map (λ tick. Some tick) c.added.items) t.run.columns
  added_back fit =
      let rows = rows_at w.tables t.run.mask in
      let ss = columns_after 0 t.run.columns t.turns t.before in
      let up : All (λ (row : Row). IsAscending row.cells) (rows_before_turn t) = λ k d l. row_ascends t.run.steps t.run.entities t.run.columns t.turns t.before stands.are k (get_or (rows_before_turn t) k d) (slice_get-get_or (rows_before_turn t) k d l) in
      let rising : T (rises (kinds_of ss)) = subst (λ ks. T (rises ks)) (sym (kinds_run 0 t.run.columns t.turns t.before)) stands.are.rising in
      let over = each_added rows t.run.entities t.run.columns ss ss (long_rows ∙ sym (rows_before_long t stands.long stands.is)) up (before_added t stands.long stands.is)
      (columns_in t.run.entities ss rising (columns_before_long t stands.long stands.is)) in
      let kept = back_kept w t.run.mask (cells_of_turn t) stands.valid (are_theirs w t stands) fit (turn_keeps t stands.long stands.is) in
      λ k d l.
      sym (kept (get_or t.run.columns k d).kind)
      ∙ ap (λ (rs : List Row). added_in rs (get_or t.run.columns k d).kind) (turn_is_taken_back rows t (is_over w t stands) stands.are (ascend w t stands))
      ∙ All-from_recursion _ t.run.columns over k d l

  -- and so they have where it may be made again
  pub added_on : AllFitOn (turn_deltas t) w → All (λ (c : RunColumn). added_in (rows_at w.tables t.run.mask) c.kind ≡ map (λ tick. Some tick) c.added.items) t.run.columns
  added_on fit =
      let rows = rows_at w.tables t.run.mask in
      let ss = columns_after 0 t.run.columns (t.turns +ℤ pos 1) (Same t.tick) in
      let up : All (λ (row : Row). IsAscending row.cells) (rows_after_turn t) = λ k d l. row_ascends t.run.steps t.run.entities t.run.columns (t.turns +ℤ pos 1) (Same t.tick) stands.are k (get_or (rows_after_turn t) k d) (slice_get-get_or (rows_after_turn t) k d l) in
      let rising : T (rises (kinds_of ss)) = subst (λ ks. T (rises ks)) (sym (kinds_run 0 t.run.columns (t.turns +ℤ pos 1) (Same t.tick))) stands.are.rising in
      let over = each_added rows t.run.entities t.run.columns ss ss (long_rows ∙ sym (rows_after_long t stands.long)) up (after_added t stands.long stands.is)
      (columns_in t.run.entities ss rising (columns_after_long t stands.long)) in
      let kept = on_kept w t.run.mask (cells_of_turn t) stands.valid (are_theirs w t stands) fit (turn_keeps t stands.long stands.is) in
      λ k d l.
      sym (kept (get_or t.run.columns k d).kind)
      ∙ ap (λ (rs : List Row). added_in rs (get_or t.run.columns k d).kind) (turn_is_cells rows t (is_over w t stands))
      ∙ All-from_recursion _ t.run.columns over k d l

  turn_kinds : map (λ (r : Row). kinds_in r.cells) (rows_before_turn t) ≡ map (λ (r : Row). kinds_in r.cells) (rows_after_turn t)
  turn_kinds =
      let before = columns_after 0 t.run.columns t.turns t.before in
      let after = columns_after 0 t.run.columns (t.turns +ℤ pos 1) (Same t.tick) in
      same_kinds (rows_before_turn t) (rows_after_turn t) (kinds_of before) (rows_before_long t stands.long stands.is ∙ sym (rows_after_long t stands.long))
      (row_kinds t.run.entities before)
      (λ k d l. row_kinds t.run.entities after k d l ∙ kinds_run 0 t.run.columns (t.turns +ℤ pos 1) (Same t.tick) ∙ sym (kinds_run 0 t.run.columns t.turns t.before))

  -- each cell that comes back may stand in its row, and each that comes again
  pub good_back : AllFitBack (turn_deltas t) w → All (λ (row : Row). list_all (λ c. is_good_cell w c.0 c.1) row.cells ≡ true) (rows_before_turn t)
  good_back fit =
      All-from_recursion _ (rows_before_turn t)
      (rows_before (is_good_cell w) (rows_before_turn t) (rows_after_turn t) turn_kinds (cells_good_back w t.run.mask (cells_of_turn t) stands.valid (are_theirs w t stands) fit))

  pub good_on : AllFitOn (turn_deltas t) w → All (λ (row : Row). list_all (λ c. is_good_cell w c.0 c.1) row.cells ≡ true) (rows_after_turn t)
  good_on fit =
      All-from_recursion _ (rows_after_turn t)
      (rows_after (is_good_cell w) (rows_before_turn t) (rows_after_turn t) turn_kinds (cells_good_on w t.run.mask (cells_of_turn t) stands.valid (are_theirs w t stands) fit))

  -- so what was there before it may be put over the rows, which takes it back
  pub can_put_back : AllFitBack (turn_deltas t) w → CanPutRun w t.run t.turns t.before
  can_put_back fit = record { rows = stands.entities; added = added_back fit; holds = stands.is.now; ticks = stands.is.ticks; good = good_back fit }

  pub put_back : AllFitBack (turn_deltas t) w → with_run w t.run t.turns t.before ≡ back_all (turn_deltas t) w
  put_back fit = runs_are_cells w t.run t.turns t.before stands.valid stands.long (can_put_back fit) ∙ sym (turn_back w t stands fit)

  -- and what it writes, which makes it again
  pub can_put_on : AllFitOn (turn_deltas t) w → CanPutRun w t.run (t.turns +ℤ pos 1) (Same t.tick)
  can_put_on fit = record {
    rows = stands.entities;
    added = added_on fit;
    holds = stands.is.next;
    ticks = λ number c there. length-replicate (length t.run.entities) t.tick;
    good = good_on fit;
  }

  pub put_on : AllFitOn (turn_deltas t) w → with_run w t.run (t.turns +ℤ pos 1) (Same t.tick) ≡ fwd_all (turn_deltas t) w
  put_on fit = runs_are_cells w t.run (t.turns +ℤ pos 1) (Same t.tick) stands.valid stands.long (can_put_on fit) ∙ sym (turn_on w t stands fit)

  -- the same of the parts of a turn, as calls lend them
  pub lent_back : (run : RunState) (turns : ℤ) (before : Changed) → run ≡ t.run → turns ≡ t.turns → before ≡ t.before → AllFitBack (turn_deltas t) w
      → CanPutRun w run turns before × (with_run w run turns before ≡ back_all (turn_deltas t) w)
  lent_back run turns before p q r fit = (
    subst (λ (u : TurnState). CanPutRun w u.run u.turns u.before) (λ i. record { run = sym p i; turns = sym q i; before = sym r i; tick = t.tick }) (can_put_back fit),
    (λ i. with_run w (p i) (q i) (r i)) ∙ put_back fit,
  )

  pub lent_on : (run : RunState) (turns : ℤ) (changed : Changed) → run ≡ t.run → turns ≡ t.turns +ℤ pos 1 → changed ≡ Same t.tick → AllFitOn (turn_deltas t) w
      → CanPutRun w run turns changed × (with_run w run turns changed ≡ fwd_all (turn_deltas t) w)
  lent_on run turns changed p q r fit = (
    subst (λ (u : TurnState). CanPutRun w u.run u.turns u.before) (λ i. record { run = sym p i; turns = sym q i; before = sym r i; tick = t.tick }) (can_put_on fit),
    (λ i. with_run w (p i) (q i) (r i)) ∙ put_on fit,
  )

-- a number of turns that a call lends, and the next
pub turns_lent : (n m : ℤ) → FitsSigned w64 n → n ≡ m → to_z w64 (of_z w64 n) ≡ m
turns_lent n m fits is = to_z-of_z w64 n fits ∙ is

pub next_lent : (n m : ℤ) → FitsSigned w64 n → n ≡ m → (m +ℤ pos 1) <ℤ pos (2 ^ 63) → to_z w64 (of_z w64 (to_z w64 (of_z w64 n) +ℤ pos 1)) ≡ m +ℤ pos 1
next_lent n m fits is counted =
    let sum = ap (λ k. k +ℤ pos 1) (turns_lent n m fits is) in
    to_z-of_z w64 (to_z w64 (of_z w64 n) +ℤ pos 1) (subst (FitsSigned w64) (sym sum) (next_fits m (subst (FitsSigned w64) is fits) counted)) ∙ sum
