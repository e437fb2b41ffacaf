-- What a turn leaves of the runs that stood in its rows.
use Rattle.std.proofs.Common.{◌≡◌, ◌<◌, ℕ, zero, suc, ℤ, pos, ◌+ℤ◌, List, [], ◌∷◌, length, map, refl, ap, sym, subst, ◌∙◌, arith, true, false, T, Option, Some, None, get_or, nat_eq}
use Rattle.std.specs.Prelude.{All, slice_get, ◌||◌}
use Rattle.std.specs.List.{list_any}
use Rattle.std.specs.Option.{option_map, option_or}
use Rattle.std.specs.declared.cmp.Ordering.TheVariants.{Less}
use Rattle.std.proofs.lemmas.Cmp.{ranked}
use Rattle.std.proofs.lemmas.Bool.{eq-eqb}
use Rattle.std.proofs.lemmas.List.{length-replicate}
use Rattle.std.proofs.lemmas.Option.{get_or_from_slice_get, slice_get-get_or, slice_get-map, slice_get_within}
use Rattle.scene_kinds.specs.Cells.{IsAscending, cell_of}
use Rattle.scene_kinds.specs.declared.cell.Cell.{Cell}
use Rattle.scene_kinds.specs.declared.cells.Row.{Row}
use Rattle.scene_kinds.specs.declared.value.Value.{Value}
use Rattle.scene_kinds.specs.declared.value.Value.TheVariants.{Int}
use Rattle.scene_kinds.proofs.Choices.{less, test_parts}
use Rattle.scene_table.specs.declared.row_step.RowStep.{RowStep}
use Rattle.scene_table.specs.declared.row_step.RowStep.TheVariants.{AddVec, AddInt}
use Rattle.scene_table.specs.declared.run.RunColumn.{RunColumn}
use Rattle.scene_table.specs.declared.series.Series.{Series}
use Rattle.scene_table.specs.declared.series.Series.TheVariants.{Ints, Vecs}
use Rattle.scene_table.specs.RowStep.{is_written}
use Rattle.scene_table.specs.Columns.{is_below, rises, zip_with}
use Rattle.scene_table.specs.Runs.{AreApart, AreColumnsFor, AreLongFor, Changed, HaveAddends, IsColumnOf, RunState, Same, Stands, StandsColumn, added_kind, changed_of, columns_after, grown, is_read, read_kinds, rows_after, rows_with_rows, values_in, with_cells}
use Rattle.scene_table.specs.LiveRuns.{AreSpared, IsLive, OthersStayLive, TurnLeavesLive}
use Rattle.scene_table.proofs.ApartSteps.{or_true}
use Rattle.scene_table.proofs.CellsOfTurn.{same_tick}
use Rattle.scene_table.proofs.GoesOn.{row_ascends, row_has, row_lacks, written_by}
use Rattle.scene_table.proofs.RowsWithCells.{cell_of-with_cells, with_cells-entity}
use Rattle.scene_table.proofs.RunFacts.{length-mapped}
use Rattle.scene_table.proofs.TableRows.{length-rows_of}
use Rattle.scene_table.proofs.TurnCells.{columns_long, length-grown}
use Rattle.scene_table.proofs.Zips.{zip-length}

-- ---- rows with others put over them

zip_from : {X Y Z : Type 0} (f : X → Y → Z) (xs : List X) (ys : List Y) (i : ℕ) (z : Z) → slice_get (zip_with f xs ys) i ≡ Some z → (x : X) × (y : Y) × (slice_get xs i ≡ Some x) × (slice_get ys i ≡ Some y) × (f x y ≡ z)
zip_from f [] ys i z h = absurd (let g : None ≡ Some z = h in cc)
zip_from f (x ∷ xs) [] i z h = absurd (let g : None ≡ Some z = h in cc)
zip_from f (x ∷ xs) (y ∷ ys) zero z h = (x, y, refl, refl, (let g : Some (f x y) ≡ Some z = h in cc))
zip_from f (x ∷ xs) (y ∷ ys) (suc i) z h = zip_from f xs ys i z h

-- they are of the same entities
entities_over : (rows written : List Row) → length written ≡ length rows → map (λ (row : Row). row.entity) (rows_with_rows rows written) ≡ map (λ (row : Row). row.entity) rows
entities_over [] [] e = refl
entities_over [] (w ∷ written) e = absurd (omega arith)
entities_over (r ∷ rows) [] e = absurd (omega arith)
entities_over (r ∷ rows) (w ∷ written) e = λ i. sym (with_cells-entity r w.cells) i ∷ entities_over rows written (omega arith) i

-- and have of a kind that the others lack what they had
kind_same : {X : Type 0} (f : Option Cell → X) (k : ℕ) (rows written : List Row) → length written ≡ length rows → ((i : ℕ) (w : Row) → slice_get written i ≡ Some w → IsAscending w.cells × (cell_of w.cells k ≡ None))
    → map (λ (row : Row). f (cell_of row.cells k)) (rows_with_rows rows written) ≡ map (λ (row : Row). f (cell_of row.cells k)) rows
kind_same f k [] [] e h = refl
kind_same f k [] (w ∷ written) e h = absurd (omega arith)
kind_same f k (r ∷ rows) [] e h = absurd (omega arith)
kind_same f k (r ∷ rows) (w ∷ written) e h =
    let p = h 0 w refl in
    let one = ap f (cell_of-with_cells r w.cells k p.0 ∙ ap (λ o. option_or o (cell_of r.cells k)) p.1) in
    λ i. one i ∷ kind_same f k rows written (omega arith) (λ j x t. h (suc j) x t) i

-- ---- columns of a run

-- what holds of each of a list holds of the one at a place
at_place : {X : Type 0} (P : X → Type 0) (xs : List X) (n : ℕ) (x : X) → All P xs → slice_get xs n ≡ Some x → P x
at_place P xs n x all at = subst P (get_or_from_slice_get xs n x x at) (all n x (slice_get_within xs n x at))

-- where each of a list has a place, what holds by place holds of each
each_place : {X : Type 0} (P : X → Type 0) (xs : List X) → ((n : ℕ) (x : X) → slice_get xs n ≡ Some x → P x) → All P xs
each_place P xs h = λ n d l. h n (get_or xs n d) (slice_get-get_or xs n d l)

-- vectors that are added are there where their kind is as it was
have_addends : (by : Option ℕ) (series : Series) (rows new : List Row) → ((kind : ℕ) → by ≡ Some kind → values_in new kind ≡ values_in rows kind) → HaveAddends rows by series → HaveAddends new by series
have_addends None series rows new same have = tt
have_addends (Some kind) (Ints base by) rows new same have = tt
have_addends (Some kind) (Vecs base by) rows new same have = same kind refl ∙ have

-- what cells have of a kind in rows, where each has what stands at its place in a list
same_in_all : {X : Type 0} (f : Cell → X) (k : ℕ) (new : List Row) (xs : List X) → length new ≡ length xs
    → ((i : ℕ) (row : Row) (x : X) → slice_get new i ≡ Some row → slice_get xs i ≡ Some x → option_map f (cell_of row.cells k) ≡ Some x)
    → map (λ (row : Row). option_map f (cell_of row.cells k)) new ≡ map (λ (x : X). Some x) xs
same_in_all f k [] [] e h = refl
same_in_all f k [] (x ∷ xs) e h = absurd (omega arith)
same_in_all f k (r ∷ new) [] e h = absurd (omega arith)
same_in_all f k (r ∷ new) (x ∷ xs) e h = λ i. h 0 r x refl refl i ∷ same_in_all f k new xs (omega arith) (λ j s y p q. h (suc j) s y p q) i

-- ---- which step writes a column

below_at : (k : ℕ) (ks : List ℕ) (n j : ℕ) → T (is_below k ks) → slice_get ks n ≡ Some j → k < j
below_at k [] n j up h = absurd (let g : None ≡ Some j = h in cc)
below_at k (x ∷ ks) zero j up h =
    let e : x ≡ j = (let g : Some x ≡ Some j = h in cc) in
    subst (λ y. k < y) e (ranked k x Less (sym (less _ (test_parts _ _ up).0)))
below_at k (x ∷ ks) (suc n) j up h = below_at k ks n j (test_parts _ _ up).1 h

-- kinds that rise stand once
rising_once : (ks : List ℕ) (i j k : ℕ) → T (rises ks) → slice_get ks i ≡ Some k → slice_get ks j ≡ Some k → i ≡ j
rising_once [] i j k up p q = absurd (let g : None ≡ Some k = p in cc)
rising_once (x ∷ ks) zero zero k up p q = refl
rising_once (x ∷ ks) zero (suc j) k up p q =
    let e : x ≡ k = (let g : Some x ≡ Some k = p in cc) in
    let l = below_at x ks j k (test_parts _ _ up).0 q in absurd (omega (arith, e, l))
rising_once (x ∷ ks) (suc i) zero k up p q =
    let e : x ≡ k = (let g : Some x ≡ Some k = q in cc) in
    let l = below_at x ks i k (test_parts _ _ up).0 p in absurd (omega (arith, e, l))
rising_once (x ∷ ks) (suc i) (suc j) k up p q = ap suc (rising_once ks i j k (test_parts _ _ up).1 p q)

step_of_column : (steps : List RowStep) (columns : List RunColumn) (n : ℕ) (c : RunColumn) → AreColumnsFor steps columns → slice_get columns n ≡ Some c → (at : ℕ) × (s : RowStep) × (slice_get steps at ≡ Some s) × IsColumnOf s c
step_of_column steps columns n c are at =
    let s = written_by steps c.kind (are.only n c at) in
    let d = are.each s.0 s.1 s.2 in
    let kinds : List ℕ = map (λ (x : RunColumn). x.kind) columns in
    let here : slice_get kinds n ≡ Some c.kind = slice_get-map (λ (x : RunColumn). x.kind) columns n ∙ ap (option_map (λ (x : RunColumn). x.kind)) at in
    let there : slice_get kinds d.0 ≡ Some c.kind = slice_get-map (λ (x : RunColumn). x.kind) columns d.0 ∙ ap (option_map (λ (x : RunColumn). x.kind)) d.2 ∙ ap (λ (k : ℕ). Some k) (d.3.kind ∙ s.3) in
    let same : n ≡ d.0 = rising_once kinds n d.0 c.kind are.rising here there in
    let is : d.1 ≡ c = (let g : Some d.1 ≡ Some c = sym d.2 ∙ ap (slice_get columns) (sym same) ∙ at in cc) in
    (s.0, s.1, s.2, subst (IsColumnOf s.1) is d.3)

adds_kind : (s : RowStep) (k : ℕ) → added_kind s ≡ Some k → (to : ℕ) × (s ≡ AddVec to k)
adds_kind (AddVec to by) k e = (to, (let g : Some by ≡ Some k = e in ap (AddVec to) (let h : by ≡ k = cc in h)))
adds_kind (AddInt to by) k e = absurd (let g : None ≡ Some k = e in cc)

read_there : (steps : List RowStep) (at to k : ℕ) → slice_get steps at ≡ Some (AddVec to k) → is_read steps k ≡ true
read_there [] at to k h = absurd (let g : None ≡ Some (AddVec to k) = h in cc)
read_there (s ∷ steps) zero to k h =
    let e : s ≡ AddVec to k = (let g : Some s ≡ Some (AddVec to k) = h in cc) in
    ap (λ t. list_any (λ j. nat_eq j k) (read_kinds t) || is_read steps k) e ∙ ap (λ b. (b || false) || is_read steps k) (eq-eqb k k refl)
read_there (s ∷ steps) (suc at) to k h = ap (λ b. list_any (λ j. nat_eq j k) (read_kinds s) || b) (read_there steps at to k h) ∙ or_true (list_any (λ j. nat_eq j k) (read_kinds s))

-- what is added to a column, the steps name, and where they are apart they don't write it
column_reads : (steps : List RowStep) (columns : List RunColumn) (n k : ℕ) (c : RunColumn) → AreColumnsFor steps columns → slice_get columns n ≡ Some c → c.by ≡ Some k → (at : ℕ) × (to : ℕ) × (slice_get steps at ≡ Some (AddVec to k))
column_reads steps columns n k c are at e =
    let s = step_of_column steps columns n c are at in
    let v = adds_kind s.1 k (sym s.3.by ∙ e) in
    (s.0, v.0, s.2 ∙ ap (λ (x : RowStep). Some x) v.1)

unread_there : (steps : List RowStep) (at to k : ℕ) → AreApart steps → slice_get steps at ≡ Some (AddVec to k) → is_written steps k ≡ false
unread_there steps at to k apart h = at_place (λ (s : RowStep). All (λ (kind : ℕ). is_written steps kind ≡ false) (read_kinds s)) steps at (AddVec to k) apart.unread h 0 k (omega arith)

-- ---- rows over which a run is put

module _ (rows : List Row) (run : RunState) (turns : ℤ) (changed : Changed) (are : AreColumnsFor run.steps run.columns) where
  abbrev put : List Row
  put = rows_after run turns changed

  spares : (k : ℕ) → is_written run.steps k ≡ false → (i : ℕ) (w : Row) → slice_get put i ≡ Some w → IsAscending w.cells × (cell_of w.cells k ≡ None)
  spares k lacks i w there = (row_ascends run.steps run.entities run.columns turns changed are i w there, row_lacks run.steps run.entities run.columns turns changed are i w there k lacks)

  module _ (long : length put ≡ length rows) where
    abbrev over : List Row
    over = rows_with_rows rows put

    over_count : length over ≡ length rows
    over_count = zip-length (λ (r w : Row). with_cells r w.cells) rows put (sym long)

    kept : {X : Type 0} (f : Cell → X) (k : ℕ) → is_written run.steps k ≡ false → map (λ (row : Row). option_map f (cell_of row.cells k)) over ≡ map (λ (row : Row). option_map f (cell_of row.cells k)) rows
    kept f k lacks = kind_same (option_map f) k rows put long (spares k lacks)

    pub others : (other : RunState) (t : ℤ) (tick : ℕ) → AreColumnsFor other.steps other.columns → AreSpared other.steps run.steps → IsLive rows other t tick → IsLive over other t tick
    others other t tick of spared live =
        let lacks = λ (n : ℕ) (c : RunColumn) (at : slice_get other.columns n ≡ Some c). spared c.kind (ap (λ b. b || is_read other.steps c.kind) (of.only n c at)) in
        record {
          stands = record {
            entities = live.stands.entities ∙ sym (entities_over rows put long);
            columns = each_place (StandsColumn over t) other.columns (λ n c at.
                let s = at_place (StandsColumn rows t) other.columns n c live.stands.columns at in record {
                  values = kept (λ (cell : Cell). cell.value) c.kind (lacks n c at) ∙ s.values;
                  added = kept (λ (cell : Cell). cell.added) c.kind (lacks n c at) ∙ s.added;
                  addends = have_addends c.by c.series rows over (λ k e.
                      let r = column_reads other.steps other.columns n k c of at e in
                      let read = ap (λ b. is_written other.steps k || b) (read_there other.steps r.0 r.1 k r.2) ∙ or_true (is_written other.steps k) in
                      kept (λ (cell : Cell). cell.value) k (spared k read)) s.addends;
                });
          };
          ticks = λ n c at. ap (λ k. map (λ (x : ℕ). Some x) (changed_of (Same tick) n k)) over_count ∙ live.ticks n c at ∙ sym (kept (λ (cell : Cell). cell.changed) c.kind (lacks n c at));
        }

pub others_stay_live : OthersStayLive
others_stay_live rows run other turns t changed tick are of spared long live = others rows run turns changed are long other t tick of spared live

-- ---- the run itself

module _ (rows : List Row) (run : RunState) (turns : ℤ) (tick : ℕ) (apart : AreApart run.steps) (are : AreColumnsFor run.steps run.columns) (wide : AreLongFor run.entities run.columns) (stands : Stands rows run turns) where
  abbrev later : ℤ
  later = turns +ℤ pos 1

  abbrev turn : List Row
  turn = rows_after run later (Same tick)

  abbrev new : List Row
  new = rows_with_rows rows turn

  count : length run.entities ≡ length rows
  count = ap length stands.entities ∙ length-mapped (λ (row : Row). row.entity) rows

  turn_count : length turn ≡ length rows
  turn_count = length-rows_of run.entities (columns_after 0 run.columns later (Same tick)) (columns_long 0 run.columns run.entities later (Same tick) wide (λ k c there. length-replicate (length run.entities) tick)) ∙ count

  new_count : length new ≡ length rows
  new_count = over_count rows run later (Same tick) are turn_count

  abbrev IsWide : RunColumn → Type 0
  IsWide c = (length c.added.items ≡ length run.entities) × (length (grown c.series (pos 0)) ≡ length run.entities)

  -- what a row has of a column after the turn
  record HasNew (i : ℕ) (c : RunColumn) (row : Row) : Type 0 where
    v : Value
    a : ℕ
    value : slice_get (grown c.series later) i ≡ Some v
    added : slice_get c.added.items i ≡ Some a
    cell : cell_of row.cells c.kind ≡ Some (record { value = v; added = a; changed = tick })

  has_new : (i n : ℕ) (c : RunColumn) (row : Row) → slice_get run.columns n ≡ Some c → slice_get new i ≡ Some row → HasNew i c row
  has_new i n c row at there =
      let z = zip_from (λ (r w : Row). with_cells r w.cells) rows turn i row there in
      let long : IsWide c = at_place IsWide run.columns n c wide at in
      let inside : i < length rows = slice_get_within rows i z.0 z.2 in
      let v = get_or (grown c.series later) i (Int (pos 0)) in
      let a = get_or c.added.items i 0 in
      let value = slice_get-get_or (grown c.series later) i (Int (pos 0)) (omega (arith, length-grown c.series later (pos 0), long.1, count, inside)) in
      let added = slice_get-get_or c.added.items i 0 (omega (arith, long.0, count, inside)) in
      let last = same_tick (length c.added.items) i tick (omega (arith, long.0, count, inside)) in
      let has = row_has run.steps run.entities run.columns later (Same tick) are i z.1 z.3 n c v a tick at value added last in
      let rising = row_ascends run.steps run.entities run.columns later (Same tick) are i z.1 z.3 in
      record {
        v = v;
        a = a;
        value = value;
        added = added;
        cell = subst (λ (x : Row). cell_of x.cells c.kind ≡ Some (record { value = v; added = a; changed = tick })) z.4
            (cell_of-with_cells z.0 z.1.cells c.kind rising ∙ ap (λ o. option_or o (cell_of z.0.cells c.kind)) has);
      }

  column_stands : (n : ℕ) (c : RunColumn) → slice_get run.columns n ≡ Some c → StandsColumn new later c
  column_stands n c at =
      let long : IsWide c = at_place IsWide run.columns n c wide at in
      let s = at_place (StandsColumn rows turns) run.columns n c stands.columns at in record {
        values = same_in_all (λ (cell : Cell). cell.value) c.kind new (grown c.series later) (omega (arith, new_count, count, long.1, length-grown c.series later (pos 0)))
            (λ i row x p q. let h = has_new i n c row at p in ap (option_map (λ (cell : Cell). cell.value)) h.cell ∙ sym h.value ∙ q);
        added = same_in_all (λ (cell : Cell). cell.added) c.kind new c.added.items (omega (arith, new_count, count, long.0))
            (λ i row x p q. let h = has_new i n c row at p in ap (option_map (λ (cell : Cell). cell.added)) h.cell ∙ sym h.added ∙ q);
        addends = have_addends c.by c.series rows new (λ k e.
            let r = column_reads run.steps run.columns n k c are at e in
            kept rows run later (Same tick) are turn_count (λ (cell : Cell). cell.value) k (unread_there run.steps r.0 r.1 k apart r.2)) s.addends;
      }

  pub turn_live : IsLive new run later tick
  turn_live = record {
    stands = record { entities = stands.entities ∙ sym (entities_over rows turn turn_count); columns = each_place (StandsColumn new later) run.columns column_stands };
    ticks = λ n c at. sym (same_in_all (λ (cell : Cell). cell.changed) c.kind new (changed_of (Same tick) n (length new)) (sym (length-replicate (length new) tick))
        (λ i row x p q. ap (option_map (λ (cell : Cell). cell.changed)) (has_new i n c row at p).cell ∙ sym (same_tick (length new) i tick (slice_get_within new i row p)) ∙ q));
  }

pub turn_leaves_live : TurnLeavesLive
turn_leaves_live rows run turns tick apart are wide stands = turn_live rows run turns tick apart are wide stands
