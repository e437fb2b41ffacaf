-- What the inserts of a turn note is what the turn's deltas are.
use Rattle.std.proofs.Common.{◌≡◌, ◌<◌, ◌+◌, ℕ, suc, ℤ, pos, ◌+ℤ◌, Bool, true, false, T, List, [], ◌∷◌, ◌++◌, length, map, refl, ap, sym, subst, ◌∙◌, arith, cond, Option, Some, None}
use Rattle.std.specs.Prelude.{replicate, slice_get}
use Rattle.std.specs.List.{AllByRecursion}
use Rattle.std.specs.Ordering.{nat_cmp, eq_by_cmp}
use Rattle.std.specs.Cmp.{nat_cmp_total}
use Rattle.std.specs.FinMap.{nat_cmp-IsAntisymmetric}
use Rattle.std.specs.FinMap.Entries.{below_all, is_sorted-where_key, find-where_key}
use Rattle.std.specs.declared.cmp.Ordering.TheVariants.{Less}
use Rattle.std.proofs.lemmas.Cmp.{ranked}
use Rattle.std.proofs.lemmas.List.{length-replicate, map-append}
use Rattle.scene_kinds.specs.declared.cell.Cell.{Cell}
use Rattle.scene_kinds.specs.declared.cells.Row.{Row}
use Rattle.scene_kinds.specs.declared.entity.Entity.{Entity}
use Rattle.scene_kinds.specs.declared.value.Value.{Value}
use Rattle.scene_kinds.specs.Cells.{IsAscending, cell_of, put_over, with_cell}
use Rattle.scene_kinds.proofs.CellLaws.{below_first, below_rest, cell_of-with_cell, first_below, rest_ascends}
use Rattle.scene_kinds.proofs.Maps.{equal_keys, ties_itself}
use Rattle.scene_table.specs.declared.row_step.RowStep.{RowStep}
use Rattle.scene_table.specs.declared.run.RunColumn.{RunColumn}
use Rattle.scene_table.specs.RowStep.{is_written}
use Rattle.scene_table.specs.Columns.{cells_of, rows_of, with_first, zip_with}
use Rattle.scene_table.specs.Runs.{AreLongFor, Changed, GoesOn, RunState, Same, cells_both, changed_of, columns_after, grown, rows_after, rows_both, written_cells, written_values}
use Rattle.scene_table.specs.Steps.{Values, values_of}
use Rattle.scene_table.specs.Table.{row_with_cell}
use Rattle.scene_table.proofs.KindLists.{same_key}
use Rattle.scene_table.proofs.TurnCells.{length-grown}
use Rattle.scene_world.proofs.StepInserts.{NotesSets, SetNote, made_notes, note_over, row_notes, rows_notes}
use Rattle.scene_deltas.specs.declared.delta.Delta.{Delta}
use Rattle.scene_deltas.specs.declared.delta.Delta.TheVariants.{CellSet}
use Rattle.scene_deltas.specs.Notes.{deltas_of}
use Rattle.scene_deltas.specs.Segments.{turn_deltas}
use Rattle.scene_deltas.proofs.TurnRows.{Change, deltas_for}
use Rattle.scene_journal.proofs.Inserts.{set_noted}

-- a cell that is set is one delta
abbrev pub set_delta : SetNote Delta
set_delta e kind before after = CellSet e kind before after ∷ []

pub notes_sets : NotesSets deltas_of set_delta
notes_sets w e kind value old v there = set_noted w e kind value old there

-- ---- cells of one row

-- cells before a turn and after it: of the same kinds, added at the same ticks, and changed at this one
abbrev IsNext : ℕ → ℕ × Cell → ℕ × Cell → Type 0
IsNext tick b a = (b.0 ≡ a.0) × ((b.1.added ≡ a.1.added) × (a.1.changed ≡ tick))

abbrev AreNext : ℕ → List (ℕ × Cell) → List (ℕ × Cell) → Type 0
AreNext tick [] [] = Unit {0}
AreNext tick (b ∷ before) (a ∷ after) = IsNext tick b a × AreNext tick before after
AreNext tick before after = ⊥

-- each cell is that of its kind
abbrev AreIn : List (ℕ × Cell) → List (ℕ × Cell) → Type 0
AreIn own cells = AllByRecursion (λ (c : ℕ × Cell). cell_of own c.0 ≡ Some c.1) cells

-- a kind isn't one of those above it
other_kind : (kind k : ℕ) → nat_cmp kind k ≡ Less → eq_by_cmp nat_cmp k kind ≡ false
other_kind kind k less = elim (eq_by_cmp nat_cmp k kind) as (λ b. eq_by_cmp nat_cmp k kind ≡ b → b ≡ false) [
  | true ↦ λ t.
      let low : kind < k = ranked kind k Less (sym less) in
      let same : k ≡ kind = equal_keys nat_cmp-IsAntisymmetric k kind t in
      absurd (omega (arith, low, same))
  | false ↦ λ t. refl
] refl

-- where one cell is put, those of kinds above it stay
still_in : (own cells : List (ℕ × Cell)) (kind : ℕ) (cell : Cell) → T (below_all nat_cmp kind cells) → AreIn own cells → AreIn (with_cell own kind cell) cells
still_in own [] kind cell low h = tt
still_in own (c ∷ cells) kind cell low h = (
  cell_of-with_cell own kind cell c.0 ∙ ap (λ b. cond b (Some cell) (cell_of own c.0)) (other_kind kind c.0 (below_first kind c cells low)) ∙ h.0,
  still_in own cells kind cell (below_rest kind c cells low) h.1,
)

more_in : (x : ℕ × Cell) (own cells : List (ℕ × Cell)) → T (below_all nat_cmp x.0 cells) → AreIn own cells → AreIn (x ∷ own) cells
more_in x own [] low h = tt
more_in x own (c ∷ cells) low h = (
  ap (λ b. cond b (Some x.1) (cell_of own c.0)) (other_kind x.0 c.0 (below_first x.0 c cells low)) ∙ h.0,
  more_in x own cells (below_rest x.0 c cells low) h.1,
)

all_in : (cells : List (ℕ × Cell)) → IsAscending cells → AreIn cells cells
all_in [] up = tt
all_in (c ∷ cells) up = (
  ap (λ b. cond b (Some c.1) (cell_of cells c.0)) (ties_itself nat_cmp_total c.0),
  more_in c cells cells (first_below c cells up) (all_in cells (rest_ascends c cells up)),
)

-- what a row has of the cells that steps write
own_in : (p : ℕ → Bool) (own cells : List (ℕ × Cell)) (found : (k : ℕ) (c : Cell) → cell_of cells k ≡ Some c → cell_of own k ≡ Some c) (part : List (ℕ × Cell)) → AreIn cells part → AreIn own part
own_in p own cells found [] h = tt
own_in p own cells found (c ∷ part) h = (found c.0 c.1 h.0, own_in p own cells found part h.1)

picked : (b : Bool) (o : Option Cell) (c : Cell) → cond b o None ≡ Some c → o ≡ Some c
picked true o c h = h
picked false o c h = absurd (let k : None ≡ Some c = h in cc)

written_in : (steps : List RowStep) (row : Row) → IsAscending row.cells → AreIn row.cells (written_cells steps row).cells
written_in steps row up =
    let own = (written_cells steps row).cells in
    own_in (is_written steps) row.cells own (λ k c h.
    picked (is_written steps k) (cell_of row.cells k) c (sym (find-where_key nat_cmp (is_written steps) k (λ x t. ap (is_written steps) (sym (same_key k x t))) row.cells) ∙ h)) own
    (all_in own (is_sorted-where_key nat_cmp (is_written steps) row.cells up))

row_noted : (tick : ℕ) (r : Row) (before after : List (ℕ × Cell)) → IsAscending before → AreIn r.cells before → AreNext tick before after
    → row_notes Delta set_delta tick r (map (λ (c : ℕ × Cell). (c.0, c.1.value)) after) ≡ deltas_for (cells_both r.entity before after)
row_noted tick r [] [] up own next = refl
row_noted tick r [] (a ∷ after) up own next = absurd next
row_noted tick r (b ∷ before) [] up own next = absurd next
row_noted tick r (b ∷ before) (a ∷ after) up own next =
    let there : cell_of r.cells a.0 ≡ Some b.1 = ap (cell_of r.cells) (sym next.0.0) ∙ own.0 in
    let cell = put_over (Some b.1) a.1.value tick in
    let made : ◌≡◌ {A = Cell} cell a.1 = λ i. record { value = a.1.value; added = next.0.1.0 i; changed = sym next.0.1.1 i } in
    let low : T (below_all nat_cmp a.0 before) = subst (λ k. T (below_all nat_cmp k before)) next.0.0 (first_below b before up) in
    let new = row_with_cell r a.0 cell in
    ap (λ o. note_over Delta set_delta tick r.entity a.0 a.1.value o ++ row_notes Delta set_delta tick (row_with_cell r a.0 (put_over o a.1.value tick)) (map (λ (c : ℕ × Cell). (c.0, c.1.value)) after)) there
    ∙ (λ i. CellSet r.entity (sym next.0.0 i) b.1 (made i) ∷ row_noted tick new before after (rest_ascends b before up) (still_in r.cells before a.0 cell low own.1) next.1 i)

-- ---- rows

abbrev pub RowsNext : ℕ → List Row → List Row → Type 0
RowsNext tick [] [] = Unit {0}
RowsNext tick (b ∷ before) (a ∷ after) = AreNext tick b.cells a.cells × RowsNext tick before after
RowsNext tick before after = ⊥

first_same : {X : Type 0} (x y : X) (xs ys : List X) → x ∷ xs ≡ y ∷ ys → x ≡ y
first_same x y xs ys h = cc

rest_same : {X : Type 0} (x y : X) (xs ys : List X) → x ∷ xs ≡ y ∷ ys → xs ≡ ys
rest_same x y xs ys h = cc

rows_noted : (tick : ℕ) (steps : List RowStep) (rows after : List Row) → AllByRecursion (λ (r : Row). IsAscending r.cells) rows
    → map (λ (row : Row). Some (values_of row)) after ≡ map (written_values steps) rows → RowsNext tick (map (written_cells steps) rows) after
    → rows_notes Delta set_delta tick steps rows ≡ deltas_for (rows_both (map (written_cells steps) rows) after)
rows_noted tick steps [] [] up made next = refl
rows_noted tick steps [] (a ∷ after) up made next = absurd next
rows_noted tick steps (r ∷ rows) [] up made next = absurd next
rows_noted tick steps (r ∷ rows) (a ∷ after) up made next =
    let own = written_cells steps r in
    let is = first_same (Some (values_of a)) (written_values steps r) (map (λ (row : Row). Some (values_of row)) after) (map (written_values steps) rows) made in
    let others = rest_same (Some (values_of a)) (written_values steps r) (map (λ (row : Row). Some (values_of row)) after) (map (written_values steps) rows) made in
    let one = row_noted tick r own.cells a.cells (is_sorted-where_key nat_cmp (is_written steps) r.cells up.0) (written_in steps r up.0) next.0 in
    ap (λ o. made_notes Delta set_delta tick r o ++ rows_notes Delta set_delta tick steps rows) (sym is)
    ∙ (λ i. one i ++ rows_noted tick steps rows after up.1 others next.1 i)
    ∙ sym (map-append (λ (c : Change). CellSet c.0 c.1 c.2 c.3) (cells_both own.entity own.cells a.cells) (rows_both (map (written_cells steps) rows) after))

-- ---- columns

abbrev CellsNext : ℕ → List Cell → List Cell → Type 0
CellsNext tick [] [] = Unit {0}
CellsNext tick (b ∷ before) (a ∷ after) = ((b.added ≡ a.added) × (a.changed ≡ tick)) × CellsNext tick before after
CellsNext tick before after = ⊥

cells_next : (tick : ℕ) (vs ws : List Value) (added was : List ℕ) → length vs ≡ length added → length ws ≡ length added → length was ≡ length added
    → CellsNext tick (cells_of vs added was) (cells_of ws added (replicate (length added) tick))
cells_next tick [] [] [] was e f g = tt
cells_next tick (v ∷ vs) ws [] was e f g = absurd (omega (arith, e))
cells_next tick [] (x ∷ ws) [] was e f g = absurd (omega (arith, f))
cells_next tick [] ws (a ∷ added) was e f g = absurd (omega (arith, e))
cells_next tick (v ∷ vs) [] (a ∷ added) was e f g = absurd (omega (arith, f))
cells_next tick (v ∷ vs) (x ∷ ws) (a ∷ added) [] e f g = absurd (omega (arith, g))
cells_next tick (v ∷ vs) (x ∷ ws) (a ∷ added) (c ∷ was) e f g = ((refl, refl), cells_next tick vs ws added was (omega (arith, e)) (omega (arith, f)) (omega (arith, g)))

bare_next : (tick : ℕ) (es : List Entity) → RowsNext tick (rows_of es []) (rows_of es [])
bare_next tick [] = tt
bare_next tick (e ∷ es) = (tt, bare_next tick es)

beside_next : (tick kind : ℕ) (bs cs : List Cell) (before after : List Row) → CellsNext tick bs cs → RowsNext tick before after
    → RowsNext tick (zip_with (with_first kind) bs before) (zip_with (with_first kind) cs after)
beside_next tick kind [] [] before after c h = tt
beside_next tick kind [] (a ∷ cs) before after c h = absurd c
beside_next tick kind (b ∷ bs) [] before after c h = absurd c
beside_next tick kind (b ∷ bs) (a ∷ cs) [] [] c h = tt
beside_next tick kind (b ∷ bs) (a ∷ cs) [] (s ∷ after) c h = absurd h
beside_next tick kind (b ∷ bs) (a ∷ cs) (r ∷ before) [] c h = absurd h
beside_next tick kind (b ∷ bs) (a ∷ cs) (r ∷ before) (s ∷ after) c h = (((refl, c.0), h.0), beside_next tick kind bs cs before after c.1 h.1)

-- the ticks of the columns of a run are as many as the rows
abbrev pub AreTicksFor : ℕ → ℕ → List RunColumn → Changed → Type 0
AreTicksFor number count cs changed = (k : ℕ) (c : RunColumn) → slice_get cs k ≡ Some c → length (changed_of changed (number + k) count) ≡ count

module _ (tick : ℕ) (es : List Entity) (turns next : ℤ) (before : Changed) where
  -- a column before a turn and after it
  column_next : (number : ℕ) (c : RunColumn) → (length c.added.items ≡ length es) × (length (grown c.series (pos 0)) ≡ length es) → length (changed_of before number (length es)) ≡ length es
      → CellsNext tick (cells_of (grown c.series turns) c.added.items (changed_of before number (length c.added.items))) (cells_of (grown c.series next) c.added.items (replicate (length c.added.items) tick))
  column_next number c long count =
      let last : length (changed_of before number (length c.added.items)) ≡ length c.added.items = ap (λ n. length (changed_of before number n)) long.0 ∙ count ∙ sym long.0 in
      cells_next tick (grown c.series turns) (grown c.series next) c.added.items (changed_of before number (length c.added.items))
      (length-grown c.series turns (pos 0) ∙ long.1 ∙ sym long.0) (length-grown c.series next (pos 0) ∙ long.1 ∙ sym long.0) last

  columns_next : (number : ℕ) (cs : List RunColumn) → AreLongFor es cs → AreTicksFor number (length es) cs before
      → RowsNext tick (rows_of es (columns_after number cs turns before)) (rows_of es (columns_after number cs next (Same tick)))
  columns_next number [] long count = bare_next tick es
  columns_next number (c ∷ cs) long count =
      beside_next tick c.kind (cells_of (grown c.series turns) c.added.items (changed_of before number (length c.added.items))) (cells_of (grown c.series next) c.added.items (replicate (length c.added.items) tick))
      (rows_of es (columns_after (number + 1) cs turns before)) (rows_of es (columns_after (number + 1) cs next (Same tick)))
      (column_next number c (long 0 c (omega arith)) (ap (λ n. length (changed_of before n (length es))) (omega arith) ∙ count 0 c refl))
      (columns_next (number + 1) cs (λ k d l. long (suc k) d (omega arith)) (λ k d there. ap (λ n. length (changed_of before n (length es))) (omega arith) ∙ count (suc k) d there))

-- ---- the values don't depend on the ticks

value_lists : (vs : List Value) (added was now : List ℕ) → length was ≡ length now → map (λ (c : Cell). c.value) (cells_of vs added was) ≡ map (λ (c : Cell). c.value) (cells_of vs added now)
value_lists [] added was now e = refl
value_lists (v ∷ vs) [] was now e = refl
value_lists (v ∷ vs) (a ∷ added) [] [] e = refl
value_lists (v ∷ vs) (a ∷ added) [] (y ∷ now) e = absurd (omega (arith, e))
value_lists (v ∷ vs) (a ∷ added) (x ∷ was) [] e = absurd (omega (arith, e))
value_lists (v ∷ vs) (a ∷ added) (x ∷ was) (y ∷ now) e = ap (λ t. v ∷ t) (value_lists vs added was now (omega (arith, e)))

beside_values : (kind : ℕ) (cells : List Cell) (rows : List Row) → map values_of (zip_with (with_first kind) cells rows) ≡ zip_with (λ (v : Value) (vs : Values). (kind, v) ∷ vs) (map (λ (c : Cell). c.value) cells) (map values_of rows)
beside_values kind [] rows = refl
beside_values kind (c ∷ cells) [] = refl
beside_values kind (c ∷ cells) (r ∷ rows) = ap (λ t. ((kind, c.value) ∷ values_of r) ∷ t) (beside_values kind cells rows)

columns_values : (number : ℕ) (cs : List RunColumn) (es : List Entity) (turns : ℤ) (was : Changed) (tick : ℕ) → AreLongFor es cs → AreTicksFor number (length es) cs was
    → map values_of (rows_of es (columns_after number cs turns was)) ≡ map values_of (rows_of es (columns_after number cs turns (Same tick)))
columns_values number [] es turns was tick long count = refl
columns_values number (c ∷ cs) es turns was tick long count =
    let one = long 0 c (omega arith) in
    let old = changed_of was number (length c.added.items) in
    let new = replicate (length c.added.items) tick in
    let first : length old ≡ length new =
    ap (λ n. length (changed_of was number n)) one.0 ∙ ap (λ n. length (changed_of was n (length es))) (omega arith) ∙ count 0 c refl ∙ sym one.0 ∙ sym (length-replicate (length c.added.items) tick) in
    let rest = columns_values (number + 1) cs es turns was tick (λ k d l. long (suc k) d (omega arith)) (λ k d there. ap (λ n. length (changed_of was n (length es))) (omega arith) ∙ count (suc k) d there) in
    beside_values c.kind (cells_of (grown c.series turns) c.added.items old) (rows_of es (columns_after (number + 1) cs turns was))
    ∙ (λ i. zip_with (λ (v : Value) (vs : Values). (c.kind, v) ∷ vs) (value_lists (grown c.series turns) c.added.items old new first i) (rest i))
    ∙ sym (beside_values c.kind (cells_of (grown c.series turns) c.added.items new) (rows_of es (columns_after (number + 1) cs turns (Same tick))))

some_values : (rows : List Row) → map (λ (row : Row). Some (values_of row)) rows ≡ map (λ (vs : Values). Some vs) (map values_of rows)
some_values [] = refl
some_values (r ∷ rows) = ap (λ t. Some (values_of r) ∷ t) (some_values rows)

-- ---- a turn

pub turn_noted : (rows : List Row) (steps : List RowStep) (run : RunState) (turns : ℤ) (before : Changed) (tick : ℕ) → AllByRecursion (λ (r : Row). IsAscending r.cells) rows → AreLongFor run.entities run.columns
    → AreTicksFor 0 (length run.entities) run.columns before → GoesOn rows steps run turns before
    → rows_notes Delta set_delta tick steps rows ≡ turn_deltas (record { run = run; turns = turns; before = before; tick = tick })
turn_noted rows steps run turns before tick up long count goes =
    let next = turns +ℤ pos 1 in
    let after = rows_after run next (Same tick) in
    let made : map (λ (row : Row). Some (values_of row)) after ≡ map (written_values steps) rows =
    some_values after ∙ ap (map (λ (vs : Values). Some vs)) (sym (columns_values 0 run.columns run.entities next before tick long count)) ∙ sym (some_values (rows_after run next before)) ∙ goes.next in
    let is = columns_next tick run.entities turns next before 0 run.columns long count in
    rows_noted tick steps rows after up made (subst (λ (rs : List Row). RowsNext tick rs after) goes.now is)
    ∙ ap (λ (rs : List Row). deltas_for (rows_both rs after)) (sym goes.now)
