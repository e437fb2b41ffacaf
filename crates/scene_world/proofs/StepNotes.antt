-- What is noted of the inserts of steps, cell by cell, is what a turn of their run wrote.
use Rattle.std.proofs.Common.{◌≡◌, ◌+◌, ℕ, suc, ℤ, pos, ◌+ℤ◌, Bool, true, false, T, cond, List, [], ◌∷◌, ◌++◌, length, map, refl, ap, sym, subst, ◌∙◌, arith, Option, Some, None, Ok}
use Rattle.std.specs.Prelude.{option_map, replicate, slice_get}
use Rattle.std.specs.List.{filter}
use Rattle.std.specs.Ordering.{nat_cmp, eq_by_cmp}
use Rattle.std.specs.Cmp.{nat_cmp_total}
use Rattle.std.specs.declared.cmp.Ordering.TheVariants.{Less}
use Rattle.std.specs.FinMap.Entries.{below_all, is_sorted-where_key}
use Rattle.std.proofs.lemmas.Bool.Decides.{nat_tests}
use Rattle.std.proofs.lemmas.List.{length-replicate, map-append}
use Rattle.std.proofs.lemmas.Option.{slice_get-get_or, slice_get-map, slice_get_within}
use Rattle.scene_kinds.specs.Cells.{IsAscending, cell_of, put_over, with_cell}
use Rattle.scene_kinds.specs.declared.cell.Cell.{Cell}
use Rattle.scene_kinds.specs.declared.cells.Row.{Row}
use Rattle.scene_kinds.specs.declared.entity.Entity.{Entity}
use Rattle.scene_kinds.proofs.CellLaws.{below_first, below_rest, cell_of-with_cell, first_below, rest_ascends}
use Rattle.scene_kinds.proofs.Maps.{ties_itself}
use Rattle.scene_table.specs.Columns.{ColumnState, cells_of}
use Rattle.scene_table.specs.RowStep.{is_written}
use Rattle.scene_table.specs.Runs.{AreApart, AreColumnsFor, AreLongFor, Changed, GoesOn, HasTicks, HoldsAt, RunState, Same, Stands, cells_both, cells_of_turn, changed_of, columns_after, grown, rows_after, rows_both, written_cells, written_values}
use Rattle.scene_table.specs.Steps.{Values, values_of}
use Rattle.scene_table.specs.Table.{row_with_cell}
use Rattle.scene_table.specs.Tables.{rows_at}
use Rattle.scene_table.specs.declared.row_step.RowStep.{RowStep}
use Rattle.scene_table.specs.declared.run.RunColumn.{RunColumn}
use Rattle.scene_table.proofs.CellWrites.{run_goes_on}
use Rattle.scene_table.proofs.CellsOfTurn.{same_tick}
use Rattle.scene_table.proofs.RunFacts.{length-mapped, ticks_long}
use Rattle.scene_table.proofs.TableRows.{length-rows_of, row_parts}
use Rattle.scene_table.proofs.TurnCells.{columns_long}
use Rattle.scene_model.specs.RunRaw.{with_run}
use Rattle.scene_model.specs.Valid.{IsValid}
use Rattle.scene_model.specs.World.{World}
use Rattle.scene_model.proofs.StandingRuns.{cell_parts, first_same, rest_same, same_at, same_some}
use Rattle.scene_world.specs.Stage.{Note, act}
use Rattle.scene_world.specs.Written.{acted, inserts}
use Rattle.scene_world.proofs.StepInserts.{NotesSets, SetNote, made_notes, note_over, row_notes, rows_notes, staged}
use Rattle.scene_world.proofs.StepRuns.{run_acted}

-- ---- cells that a row has

-- of each kind of these, a row has this cell
abbrev pub AreFound : List (ℕ × Cell) → List (ℕ × Cell) → Type 0
AreFound own [] = Unit {0}
AreFound own (c ∷ cells) = (cell_of own c.0 ≡ Some c.1) × AreFound own cells

above_is_other : (a b : ℕ) → nat_cmp a b ≡ Less → eq_by_cmp nat_cmp b a ≡ false
above_is_other a b h = grind (arith, nat_tests)

found_behind : (c : ℕ × Cell) (own cells : List (ℕ × Cell)) → T (below_all nat_cmp c.0 cells) → AreFound own cells → AreFound (c ∷ own) cells
found_behind c own [] below found = tt
found_behind c own (x ∷ cells) below found =
    (ap (λ b. cond b (Some c.1) (cell_of own x.0)) (above_is_other c.0 x.0 (below_first c.0 x cells below)) ∙ found.0, found_behind c own cells (below_rest c.0 x cells below) found.1)

found_itself : (cells : List (ℕ × Cell)) → IsAscending cells → AreFound cells cells
found_itself [] up = tt
found_itself (c ∷ cells) up =
    (ap (λ b. cond b (Some c.1) (cell_of cells c.0)) (ties_itself nat_cmp_total c.0), found_behind c cells cells (first_below c cells up) (found_itself cells (rest_ascends c cells up)))

found_some : (p : ℕ × Cell → Bool) (own cells : List (ℕ × Cell)) → AreFound own cells → AreFound own (filter p cells)
found_some p own [] found = tt
found_some p own (c ∷ cells) found = elim (p c) as (λ b. AreFound own (cond b (c ∷ filter p cells) (filter p cells))) [
  | true ↦ (found.0, found_some p own cells found.1)
  | false ↦ found_some p own cells found.1
]

-- a cell of a lower kind changes none of them
still_found : (own : List (ℕ × Cell)) (kind : ℕ) (cell : Cell) (cells : List (ℕ × Cell)) → T (below_all nat_cmp kind cells) → AreFound own cells → AreFound (with_cell own kind cell) cells
still_found own kind cell [] below found = tt
still_found own kind cell (c ∷ cells) below found = (
  cell_of-with_cell own kind cell c.0 ∙ ap (λ b. cond b (Some cell) (cell_of own c.0)) (above_is_other kind c.0 (below_first kind c cells below)) ∙ found.0,
  still_found own kind cell cells (below_rest kind c cells below) found.1,
)

-- ---- cells before a turn and after it

-- cells are of the same kinds, added at the same ticks, and the later ones are changed at a tick
abbrev pub ArePaired : ℕ → List (ℕ × Cell) → List (ℕ × Cell) → Type 0
ArePaired tick [] [] = Unit {0}
ArePaired tick (b ∷ before) (a ∷ after) = (b.0 ≡ a.0) × (b.1.added ≡ a.1.added) × (a.1.changed ≡ tick) × ArePaired tick before after
ArePaired tick before after = ⊥

-- the cells of a run's columns at a place
abbrev AreAt : ℕ → ℕ → List RunColumn → ℤ → Changed → List (ℕ × Cell) → Type 0
AreAt i from columns turns changed cells =
    map (λ (column : ColumnState). option_map (λ (cell : Cell). (column.kind, cell)) (slice_get column.cells i)) (columns_after from columns turns changed) ≡ map (λ (x : ℕ × Cell). Some x) cells

-- the first of them, of the first column
record IsFirst (c : RunColumn) (turns : ℤ) (i : ℕ) (ticks : List ℕ) (x : ℕ × Cell) : Type 0 where
  kind : c.kind ≡ x.0
  value : slice_get (grown c.series turns) i ≡ Some x.1.value
  added : slice_get c.added.items i ≡ Some x.1.added
  changed : slice_get ticks i ≡ Some x.1.changed

first_of : (c : RunColumn) (turns : ℤ) (i : ℕ) (ticks : List ℕ) (x : ℕ × Cell) (o : Option Cell) → slice_get (cells_of (grown c.series turns) c.added.items ticks) i ≡ o
    → option_map (λ (cell : Cell). (c.kind, cell)) o ≡ Some x → IsFirst c turns i ticks x
first_of c turns i ticks x None at h = absurd (let k : None ≡ Some x = h in cc)
first_of c turns i ticks x (Some cell) at h =
    let e : (c.kind, cell) ≡ x = (let k : Some (c.kind, cell) ≡ Some x = h in cc) in
    let p = cell_parts (grown c.series turns) c.added.items ticks i cell at in
    record {
      kind = ap (λ (y : ℕ × Cell). y.0) e;
      value = p.0 ∙ ap (λ (y : ℕ × Cell). Some y.1.value) e;
      added = p.1 ∙ ap (λ (y : ℕ × Cell). Some y.1.added) e;
      changed = p.2 ∙ ap (λ (y : ℕ × Cell). Some y.1.changed) e;
    }

record IsNext (i from : ℕ) (c : RunColumn) (columns : List RunColumn) (turns : ℤ) (changed : Changed) (x : ℕ × Cell) (cells : List (ℕ × Cell)) : Type 0 where
  first : IsFirst c turns i (changed_of changed from (length c.added.items)) x
  rest : AreAt i (from + 1) columns turns changed cells

next_of : (i from : ℕ) (c : RunColumn) (columns : List RunColumn) (turns : ℤ) (changed : Changed) (x : ℕ × Cell) (cells : List (ℕ × Cell)) → AreAt i from (c ∷ columns) turns changed (x ∷ cells) → IsNext i from c columns turns changed x cells
next_of i from c columns turns changed x cells e =
    let ticks = changed_of changed from (length c.added.items) in
    let own = slice_get (cells_of (grown c.series turns) c.added.items ticks) i in
    let others = map (λ (column : ColumnState). option_map (λ (cell : Cell). (column.kind, cell)) (slice_get column.cells i)) (columns_after (from + 1) columns turns changed) in
    record {
      first = first_of c turns i ticks x own refl (first_same (option_map (λ (cell : Cell). (c.kind, cell)) own) (Some x) others (map (λ (y : ℕ × Cell). Some y) cells) e);
      rest = rest_same (option_map (λ (cell : Cell). (c.kind, cell)) own) (Some x) others (map (λ (y : ℕ × Cell). Some y) cells) e;
    }

no_first : (x : ℕ × Cell) (cells : List (ℕ × Cell)) → [] ≡ map (λ (y : ℕ × Cell). Some y) (x ∷ cells) → ⊥
no_first x cells e = let k : [] ≡ Some x ∷ map (λ (y : ℕ × Cell). Some y) cells = e in absurd (cc)

no_column : (i from : ℕ) (c : RunColumn) (columns : List RunColumn) (turns : ℤ) (changed : Changed) → AreAt i from (c ∷ columns) turns changed [] → ⊥
no_column i from c columns turns changed e =
    let own = slice_get (cells_of (grown c.series turns) c.added.items (changed_of changed from (length c.added.items))) i in
    let others : List (Option (ℕ × Cell)) = map (λ (column : ColumnState). option_map (λ (cell : Cell). (column.kind, cell)) (slice_get column.cells i)) (columns_after (from + 1) columns turns changed) in
    let k : option_map (λ (cell : Cell). (c.kind, cell)) own ∷ others ≡ [] = e in absurd (cc)

paired : (i from : ℕ) (columns : List RunColumn) (turns later : ℤ) (before : Changed) (tick : ℕ) (bs cs : List (ℕ × Cell)) → AreAt i from columns turns before bs → AreAt i from columns later (Same tick) cs → ArePaired tick bs cs
paired i from [] turns later before tick [] [] e f = tt
paired i from [] turns later before tick [] (x ∷ cs) e f = absurd (no_first x cs f)
paired i from [] turns later before tick (x ∷ bs) cs e f = absurd (no_first x bs e)
paired i from (c ∷ columns) turns later before tick [] cs e f = absurd (no_column i from c columns turns before e)
paired i from (c ∷ columns) turns later before tick (x ∷ bs) [] e f = absurd (no_column i from c columns later (Same tick) f)
paired i from (c ∷ columns) turns later before tick (x ∷ bs) (y ∷ cs) e f =
    let old = next_of i from c columns turns before x bs e in
    let new = next_of i from c columns later (Same tick) y cs f in
    let within = slice_get_within c.added.items i y.1.added new.first.added in (
      sym old.first.kind ∙ new.first.kind,
      same_some x.1.added y.1.added (slice_get c.added.items i) old.first.added new.first.added,
      same_some y.1.changed tick (slice_get (replicate (length c.added.items) tick) i) new.first.changed (same_tick (length c.added.items) i tick within),
      paired i (from + 1) columns turns later before tick bs cs old.rest new.rest,
    )

abbrev values_in : List (ℕ × Cell) → Values
values_in cells = map (λ (c : ℕ × Cell). (c.0, c.1.value)) cells

-- the values don't depend on the changed ticks
same_values : (i from : ℕ) (columns : List RunColumn) (turns : ℤ) (one other : Changed) (bs cs : List (ℕ × Cell)) → AreAt i from columns turns one bs → AreAt i from columns turns other cs → values_in bs ≡ values_in cs
same_values i from [] turns one other [] [] e f = refl
same_values i from [] turns one other [] (x ∷ cs) e f = absurd (no_first x cs f)
same_values i from [] turns one other (x ∷ bs) cs e f = absurd (no_first x bs e)
same_values i from (c ∷ columns) turns one other [] cs e f = absurd (no_column i from c columns turns one e)
same_values i from (c ∷ columns) turns one other (x ∷ bs) [] e f = absurd (no_column i from c columns turns other f)
same_values i from (c ∷ columns) turns one other (x ∷ bs) (y ∷ cs) e f =
    let old = next_of i from c columns turns one x bs e in
    let new = next_of i from c columns turns other y cs f in
    let kind : x.0 ≡ y.0 = sym old.first.kind ∙ new.first.kind in
    let value : x.1.value ≡ y.1.value = same_some x.1.value y.1.value (slice_get (grown c.series turns) i) old.first.value new.first.value in
    λ j. (kind j, value j) ∷ same_values i (from + 1) columns turns one other bs cs old.rest new.rest j

-- ---- what is noted

module _ (N : Type 0) (f : Entity × ℕ × Cell × Cell → N) (tick : ℕ) where
  abbrev pub note_cell : SetNote N
  note_cell e kind old new = f (e, kind, old, new) ∷ []

  cells_noted : (r : Row) (bs cs : List (ℕ × Cell)) → ArePaired tick bs cs → AreFound r.cells bs → IsAscending bs → row_notes N note_cell tick r (values_in cs) ≡ map f (cells_both r.entity bs cs)
  cells_noted r [] [] pair found up = refl
  cells_noted r [] (y ∷ cs) pair found up = absurd pair
  cells_noted r (x ∷ bs) [] pair found up = absurd pair
  cells_noted r (x ∷ bs) (y ∷ cs) pair found up =
      let here : cell_of r.cells y.0 ≡ Some x.1 = ap (cell_of r.cells) (sym pair.0) ∙ found.0 in
      let cell = put_over (cell_of r.cells y.0) y.1.value tick in
      let made : put_over (Some x.1) y.1.value tick ≡ y.1 = λ i. record { value = y.1.value; added = pair.1 i; changed = sym pair.2 i } in
      let own : note_over N note_cell tick r.entity y.0 y.1.value (cell_of r.cells y.0) ≡ f (r.entity, x.0, x.1, y.1) ∷ [] =
      ap (note_over N note_cell tick r.entity y.0 y.1.value) here ∙ (λ i. f (r.entity, sym pair.0 i, x.1, made i) ∷ []) in
      let after : AreFound (with_cell r.cells y.0 cell) bs = subst (λ k. AreFound (with_cell r.cells k cell) bs) pair.0 (still_found r.cells x.0 cell bs (first_below x bs up) found.1) in
      λ i. own i ++ cells_noted (row_with_cell r y.0 cell) bs cs pair.3 after (rest_ascends x bs up) i

  -- a row before a turn and after it, of a row of the table of which steps make the values of the later one
  record IsNoted (steps : List RowStep) (r b a : Row) : Type 0 where
    values : written_values steps r ≡ Some (values_of a)
    entity : r.entity ≡ b.entity
    paired : ArePaired tick b.cells a.cells
    found : AreFound r.cells b.cells
    up : IsAscending b.cells

  rows_noted : (steps : List RowStep) (rows bs cs : List Row) → length bs ≡ length rows → length cs ≡ length rows
      → ((i : ℕ) (r b a : Row) → slice_get rows i ≡ Some r → slice_get bs i ≡ Some b → slice_get cs i ≡ Some a → IsNoted steps r b a) → rows_notes N note_cell tick steps rows ≡ map f (rows_both bs cs)
  rows_noted steps [] [] cs h k each = refl
  rows_noted steps [] (b ∷ bs) cs h k each = absurd (omega arith)
  rows_noted steps (r ∷ rows) [] cs h k each = absurd (omega arith)
  rows_noted steps (r ∷ rows) (b ∷ bs) [] h k each = absurd (omega arith)
  rows_noted steps (r ∷ rows) (b ∷ bs) (a ∷ cs) h k each =
      let one = each 0 r b a refl refl refl in
      let own = ap (made_notes N note_cell tick r) one.values ∙ cells_noted r b.cells a.cells one.paired one.found one.up ∙ ap (λ e. map f (cells_both e b.cells a.cells)) one.entity in
      (λ i. own i ++ rows_noted steps rows bs cs (omega arith) (omega arith) (λ n x y z p q s. each (suc n) x y z p q s) i)
      ∙ sym (map-append f (cells_both b.entity b.cells a.cells) (rows_both bs cs))

-- ---- a turn

module _ (w : World) (run : RunState) (turns : ℤ) (before : Changed) (v : IsValid w) (apart : AreApart run.steps) (are : AreColumnsFor run.steps run.columns) (long : AreLongFor run.entities run.columns)
    (stands : Stands (rows_at w.tables run.mask) run turns) (ticks : HasTicks (rows_at w.tables run.mask) run before) (fits : HoldsAt run (turns +ℤ pos 1)) where
  abbrev rows : List Row
  rows = rows_at w.tables run.mask

  ascends : (i : ℕ) (row : Row) → slice_get rows i ≡ Some row → IsAscending row.cells
  ascends i row there = (v.rows.each (record { mask = run.mask; place = i }) row there).fits.kinds.ascending

  goes : GoesOn rows run.steps run turns before
  goes = run_goes_on rows run turns before (λ k d l. ascends k _ (slice_get-get_or rows k d l)) apart are long stands ticks fits

  own_count : length run.entities ≡ length rows
  own_count = ap length stands.entities ∙ length-mapped (λ (row : Row). row.entity) rows

  count_before : length (rows_after run turns before) ≡ length rows
  count_before =
      length-rows_of run.entities (columns_after 0 run.columns turns before)
      (columns_long 0 run.columns run.entities turns before long (λ k c there.
      ap (λ n. length (changed_of before n (length run.entities))) (omega arith)
      ∙ subst (λ n. length (changed_of before k n) ≡ n) (sym own_count) (ticks_long rows run before ticks k c there)))
      ∙ own_count

  count_after : length (rows_after run (turns +ℤ pos 1) (Same w.tick)) ≡ length rows
  count_after =
      length-rows_of run.entities (columns_after 0 run.columns (turns +ℤ pos 1) (Same w.tick))
      (columns_long 0 run.columns run.entities (turns +ℤ pos 1) (Same w.tick) long (λ k c there. length-replicate (length run.entities) w.tick))
      ∙ own_count

  -- what is noted of the inserts of the steps, one cell after another, is what the turn wrote
  pub notes_are_cells : (N : Type 0) (f : Entity × ℕ × Cell × Cell → N) → rows_notes N (note_cell N f w.tick) w.tick run.steps rows
      ≡ map f (cells_of_turn (record { run = run; turns = turns; before = before; tick = w.tick }))
  notes_are_cells N f =
      rows_noted N f w.tick run.steps rows (rows_after run turns before) (rows_after run (turns +ℤ pos 1) (Same w.tick)) count_before count_after
      (λ i r b a p q s.
      let is : b ≡ written_cells run.steps r = same_some b (written_cells run.steps r) (slice_get (rows_after run turns before) i) q
      (ap (λ rs. slice_get rs i) goes.now ∙ slice_get-map (written_cells run.steps) rows i ∙ ap (option_map (written_cells run.steps)) p) in
      let n = same_at (written_values run.steps) (λ (x : Row). Some (values_of x)) rows (rows_after run (turns +ℤ pos 1) before) i r (sym goes.next) p in
      let old = row_parts run.entities (columns_after 0 run.columns turns before) i b q in
      let new = row_parts run.entities (columns_after 0 run.columns (turns +ℤ pos 1) (Same w.tick)) i a s in
      let next = row_parts run.entities (columns_after 0 run.columns (turns +ℤ pos 1) before) i n.0 n.1.0 in
      record {
        values = sym n.1.1 ∙ ap (λ (vs : Values). Some vs) (same_values i 0 run.columns (turns +ℤ pos 1) before (Same w.tick) n.0.cells a.cells next.1 new.1);
        entity = ap (λ (x : Row). x.entity) (sym is);
        paired = paired i 0 run.columns turns (turns +ℤ pos 1) before w.tick b.cells a.cells old.1 new.1;
        found = subst (λ (x : Row). AreFound r.cells x.cells) (sym is) (found_some (λ c. is_written run.steps c.0) r.cells r.cells (found_itself r.cells (ascends i r p)));
        up = subst (λ (x : Row). IsAscending x.cells) (sym is) (is_sorted-where_key nat_cmp (is_written run.steps) r.cells (ascends i r p));
      })

  -- so a stage that notes one thing of each cell that is set notes those of the turn
  pub turn_acted : (N : Type 0) (note : Note N) (f : Entity × ℕ × Cell × Cell → N) → NotesSets note (note_cell N f w.tick) → (notes : List N) → acted (act note) (inserts w run.mask run.steps) (staged w notes)
      ≡ Ok (tt, staged (with_run w run (turns +ℤ pos 1) (Same w.tick)) (notes ++ map f (cells_of_turn (record { run = run; turns = turns; before = before; tick = w.tick }))))
  turn_acted N note f sets notes =
      run_acted w run turns v apart are long stands fits N note (note_cell N f w.tick) sets notes
      ∙ (λ i. Ok (tt, staged (with_run w run (turns +ℤ pos 1) (Same w.tick)) (notes ++ notes_are_cells N f i)))
