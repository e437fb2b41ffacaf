-- Row steps over the rows of a valid world: a run can be made of them, and what it writes is what their inserts make.
use Rattle.std.proofs.Common.{◌≡◌, ◌<◌, ℕ, suc, ℤ, pos, ◌+ℤ◌, Bool, true, false, List, [], ◌∷◌, ◌++◌, length, get_or, map, refl, ap, sym, subst, ◌∙◌, arith, Option, Some, None, Ok}
use Rattle.std.specs.Prelude.{All, ◌&&◌, IsSome, is_some, option_map, slice_get}
use Rattle.std.specs.List.{flat_map, list_all}
use Rattle.std.proofs.lemmas.Bool.{and_parts, and_from}
use Rattle.std.proofs.lemmas.Option.{get_or_from_slice_get, slice_get-get_or, slice_get-map}
use Rattle.scene_kinds.specs.Cells.{IsAscending, cell_of}
use Rattle.scene_kinds.specs.KindSet.{KindSet, has_kind}
use Rattle.scene_kinds.specs.Lists.{listed, whole}
use Rattle.scene_kinds.specs.Schema.{Kinds, fits_kind, has_shape, shape_of}
use Rattle.scene_kinds.specs.Shape.{same_shape, shape_of_value}
use Rattle.scene_kinds.specs.Ranges.{is_in_range}
use Rattle.scene_kinds.specs.declared.cell.Cell.{Cell}
use Rattle.scene_kinds.specs.declared.cells.Row.{Row}
use Rattle.scene_kinds.specs.declared.shape.Shape.{Shape}
use Rattle.scene_kinds.specs.declared.shape.Shape.TheVariants as shape
use Rattle.scene_kinds.specs.declared.value.Value.{Value}
use Rattle.scene_kinds.specs.declared.value.Value.TheVariants as value
use Rattle.scene_kinds.proofs.KindSets.{has_kind-mask_of}
use Rattle.scene_table.specs.Columns.{kinds_in, kinds_of}
use Rattle.scene_table.specs.Runs.{AreApart, AreColumnsFor, AreLongFor, CanStep, Changed, Each, GoesOn, HasTicks, HoldsAt, RunState, Same, Stands, added_in, columns_after, is_number, is_vector, rows_after, rows_with_rows, values_in, written_values}
use Rattle.scene_table.specs.Steps.{values_of}
use Rattle.scene_table.specs.Table.{TableState}
use Rattle.scene_table.specs.Tables.{rows_at}
use Rattle.scene_table.specs.declared.row_step.RowStep.{RowStep}
use Rattle.scene_table.specs.declared.row_step.RowStep.TheVariants.{AddVec, AddInt}
use Rattle.scene_table.specs.declared.run.RunColumn.{RunColumn}
use Rattle.scene_table.proofs.CellWrites.{run_goes_on, turn_writes_steps}
use Rattle.scene_table.proofs.CellsOfTurn.{kinds_run}
use Rattle.scene_table.proofs.RunFacts.{stands_added}
use Rattle.scene_table.proofs.TableRows.{row_kinds}
use Rattle.scene_model.specs.RunRaw.{with_run}
use Rattle.scene_model.specs.Valid.{IsValid}
use Rattle.scene_model.specs.World.{World}
use Rattle.scene_model.proofs.GoodCells.{found_good, good_cells}
use Rattle.scene_model.proofs.RunCells.{has_each, kind_there, kinds_there, run_written}
use Rattle.scene_model.proofs.StandingRuns.{each_at, same_at, same_shape_is, standing_runs_can_be_put, values_fit}
use Rattle.scene_world.specs.Stage.{Note, act}
use Rattle.scene_world.specs.Written.{FitAll, HasKindsOf, HasKindsOfStep, acted, inserts, inserts_of}
use Rattle.scene_world.proofs.StepInserts.{CanInsert, CanInsertAll, NotesSets, SetNote, all_acted, no_note, none_all, rows_notes, staged}

-- ---- a run can be made

-- values of one kind have one shape
one_shape : (schema : Kinds) (kind : ℕ) (x y : Value) → fits_kind schema x kind ≡ true → fits_kind schema y kind ≡ true → shape_of_value x ≡ shape_of_value y
one_shape schema kind x y g h = elim (shape_of schema kind) as (λ o. has_shape x o ≡ true → has_shape y o ≡ true → shape_of_value x ≡ shape_of_value y) [
  | None ↦ λ p q. absurd (let k : false ≡ true = p in cc)
  | Some s ↦ λ p q.
      same_shape_is (shape_of_value x) s (and_parts (is_in_range x) (same_shape (shape_of_value x) s) p).1
      ∙ sym (same_shape_is (shape_of_value y) s (and_parts (is_in_range y) (same_shape (shape_of_value y) s) q).1)
] g h

abbrev of_int : Shape → Bool
of_int shape.Int = true
of_int s = false

abbrev of_vec : Shape → Bool
of_vec shape.Vec3 = true
of_vec s = false

number_is : (v : Value) → is_number v ≡ of_int (shape_of_value v)
number_is value.Tag = refl
number_is (value.Int n) = refl
number_is (value.Vec3 parts) = refl
number_is (value.Text t) = refl
number_is (value.Link e) = refl

vector_is : (v : Value) → is_vector v ≡ of_vec (shape_of_value v)
vector_is value.Tag = refl
vector_is (value.Int n) = refl
vector_is (value.Vec3 parts) = refl
vector_is (value.Text t) = refl
vector_is (value.Link e) = refl

all_from : {X : Type 0} (p : X → Bool) (xs : List X) → ((i : ℕ) (x : X) → slice_get xs i ≡ Some x → p x ≡ true) → list_all p xs ≡ true
all_from p [] h = refl
all_from p (x ∷ xs) h = and_from (p x) (list_all p xs) (h 0 x refl) (all_from p xs (λ i y g. h (suc i) y g))

-- the cell of which a row has the value
cell_with : (o : Option Cell) (x : Value) → Some x ≡ option_map (λ (c : Cell). c.value) o → (c : Cell) × ((o ≡ Some c) × (c.value ≡ x))
cell_with None x h = absurd (let k : Some x ≡ None = h in cc)
cell_with (Some c) x h = (c, (refl, sym (let k : Some x ≡ Some c.value = h in cc)))

module _ (w : World) (t : TableState) (v : IsValid w) (same : t.rows ≡ rows_at w.tables t.mask) where
  -- the values of a kind pass what the values of a shape pass, where one that fits the kind does
  kind_passes : (p : Value → Bool) (of : Shape → Bool) (kind : ℕ) (x : Value) → ((y : Value) → p y ≡ of (shape_of_value y)) → fits_kind w.schema x kind ≡ true → p x ≡ true
      → (values : List Value) → values_in t.rows kind ≡ map (λ (y : Value). Some y) values → list_all p values ≡ true
  kind_passes p of kind x by_shape fits good values e =
      all_from p values (λ i y h.
      let r = same_at (λ (z : Value). Some z) (λ (row : Row). option_map (λ (c : Cell). c.value) (cell_of row.cells kind)) values t.rows i y (sym e) h in
      let c = cell_with (cell_of r.0.cells kind) y (sym r.1.1) in
      let there : slice_get (rows_at w.tables t.mask) i ≡ Some r.0 = ap (λ rs. slice_get rs i) (sym same) ∙ r.1.0 in
      let own = found_good w r.0.cells kind c.0 (good_cells w w.slots t.mask r.0 (v.rows.each (record { mask = t.mask; place = i }) r.0 there)) c.1.0 in
      by_shape y ∙ ap of (ap shape_of_value (sym c.1.1) ∙ one_shape w.schema kind c.0.value x own.fits fits) ∙ sym (by_shape x) ∙ good)

  module _ (row : Row) (first : slice_get t.rows 0 ≡ Some row) where
    kind_is_in : (kind : ℕ) → IsSome (cell_of row.cells kind) → has_kind t.mask kind ≡ true
    kind_is_in kind is =
        let sound = (v.rows.each (record { mask = t.mask; place = 0 }) row (ap (λ rs. slice_get rs 0) (sym same) ∙ first)).fits.kinds in
        ap (λ m. has_kind m kind) (sym sound.kinds) ∙ has_kind-mask_of row.cells kind sound.ascending ∙ is

    can_step : (s : RowStep) → HasKindsOfStep w.schema s row → CanStep t s
    can_step (AddInt to by) h = (kind_is_in to h.0, kind_passes is_number of_int to (value.Int by) number_is h.1 refl)
    can_step (AddVec to by) h =
        let zero_vector = value.Vec3 (pos 0 ∷ pos 0 ∷ pos 0 ∷ []) in (
          kind_is_in to h.0.0,
          kind_is_in by h.0.1,
          kind_passes is_vector of_vec to zero_vector vector_is h.1 refl,
          kind_passes is_vector of_vec by zero_vector vector_is h.2 refl,
        )

  -- steps whose kinds each row has can be made a run
  pub can_steps : (steps : List RowStep) → 0 < length t.rows → All (HasKindsOf w.schema steps) (rows_at w.tables t.mask) → All (CanStep t) steps
  can_steps steps some kinds k d l =
      let row = get_or t.rows 0 (record { entity = record { index = 0; generation = 0 }; cells = [] }) in
      let first = slice_get-get_or t.rows 0 (record { entity = record { index = 0; generation = 0 }; cells = [] }) some in
      can_step row first (get_or steps k d) (each_at (HasKindsOf w.schema steps) (rows_at w.tables t.mask) 0 row kinds (ap (λ rs. slice_get rs 0) (sym same) ∙ first) k d l)

-- ---- what a turn writes is what inserts make

abbrev tick_of : Option Cell → ℕ
tick_of None = 0
tick_of (Some c) = c.changed

changed_there : (o : Option Cell) → is_some o ≡ true → Some (tick_of o) ≡ option_map (λ (c : Cell). c.changed) o
changed_there None h = absurd (let k : false ≡ true = h in cc)
changed_there (Some c) h = refl

own_changed : (rows : List Row) (kind : ℕ) → All (λ (r : Row). is_some (cell_of r.cells kind) ≡ true) rows
    → map (λ (tick : ℕ). Some tick) (map (λ (r : Row). tick_of (cell_of r.cells kind)) rows) ≡ map (λ (r : Row). option_map (λ (c : Cell). c.changed) (cell_of r.cells kind)) rows
own_changed [] kind there = refl
own_changed (r ∷ rows) kind there = λ i. changed_there (cell_of r.cells kind) (there 0 r (omega arith)) i ∷ own_changed rows kind (λ k d l. there (suc k) d (omega arith)) i

value_kinds : (cells : List (ℕ × Cell)) → map (λ (v : ℕ × Value). v.0) (map (λ (c : ℕ × Cell). (c.0, c.1.value)) cells) ≡ kinds_in cells
value_kinds [] = refl
value_kinds (c ∷ cells) = ap (λ t. c.0 ∷ t) (value_kinds cells)

values_all : (schema : Kinds) (cells : List (ℕ × Cell)) → list_all (λ (v : ℕ × Value). fits_kind schema v.1 v.0) (map (λ (c : ℕ × Cell). (c.0, c.1.value)) cells) ≡ list_all (λ (c : ℕ × Cell). fits_kind schema c.1.value c.0) cells
values_all schema [] = refl
values_all schema (c ∷ cells) = ap (λ b. fits_kind schema c.1.value c.0 && b) (values_all schema cells)

can_all : (schema : Kinds) (steps : List RowStep) (rows : List Row) → ((i : ℕ) (row : Row) → slice_get rows i ≡ Some row → CanInsert schema row (written_values steps row)) → CanInsertAll schema steps rows
can_all schema steps [] h = tt
can_all schema steps (r ∷ rows) h = (h 0 r refl, can_all schema steps rows (λ i row there. h (suc i) row there))

module _ (w : World) (run : RunState) (turns : ℤ) (v : IsValid w) (apart : AreApart run.steps) (are : AreColumnsFor run.steps run.columns) (long : AreLongFor run.entities run.columns)
    (stands : Stands (rows_at w.tables run.mask) run turns) (fits : HoldsAt run (turns +ℤ pos 1)) where
  abbrev rows : List Row
  rows = rows_at w.tables run.mask

  abbrev ticks_in : RunColumn → List ℕ
  ticks_in c = map (λ (r : Row). tick_of (cell_of r.cells c.kind)) rows

  -- the ticks at which the cells were changed
  abbrev own_ticks : Changed
  own_ticks = Each (map ticks_in run.columns)

  has_ticks : HasTicks rows run own_ticks
  has_ticks number c there =
      ap (map (λ (tick : ℕ). Some tick)) (get_or_from_slice_get (map ticks_in run.columns) number (ticks_in c) [] (slice_get-map ticks_in run.columns number ∙ ap (option_map ticks_in) there))
      ∙ own_changed rows c.kind (kind_there rows c.kind c.added.items
      (each_at (λ (x : RunColumn). added_in rows x.kind ≡ map (λ (tick : ℕ). Some tick) x.added.items) run.columns number c (stands_added rows run turns stands) there))

  ascend : All (λ (row : Row). IsAscending row.cells) rows
  ascend k d l = (v.rows.each (record { mask = run.mask; place = k }) (get_or rows k d) (slice_get-get_or rows k d l)).fits.kinds.ascending

  goes : GoesOn rows run.steps run turns own_ticks
  goes = run_goes_on rows run turns own_ticks ascend apart are long stands has_ticks fits

  abbrev next_rows : List Row
  next_rows = rows_after run (turns +ℤ pos 1) own_ticks

  next_row : (i : ℕ) (row : Row) → slice_get rows i ≡ Some row → (x : Row) × ((slice_get next_rows i ≡ Some x) × (Some (values_of x) ≡ written_values run.steps row))
  next_row i row there = same_at (written_values run.steps) (λ (x : Row). Some (values_of x)) rows next_rows i row (sym goes.next) there

  -- all sums fit
  pub all_fit : FitAll run.steps rows
  all_fit k d l = subst IsSome (next_row k (get_or rows k d) (slice_get-get_or rows k d l)).1.1 refl

  can_insert : (i : ℕ) (row : Row) → slice_get rows i ≡ Some row → CanInsert w.schema row (written_values run.steps row)
  can_insert i row there =
      let next = next_row i row there in
      let x = next.0 in
      let columns = columns_after 0 run.columns (turns +ℤ pos 1) own_ticks in
      let kinds : map (λ (y : ℕ × Value). y.0) (values_of x) ≡ map (λ (c : RunColumn). c.kind) run.columns =
      value_kinds x.cells ∙ each_at (λ (y : Row). kinds_in y.cells ≡ kinds_of columns) next_rows i x (row_kinds run.entities columns) next.1.0 ∙ kinds_run 0 run.columns (turns +ℤ pos 1) own_ticks in
      subst (CanInsert w.schema row) next.1.1 (
        ap (has_each row.cells) kinds ∙ each_at (λ (r : Row). has_each r.cells (map (λ (c : RunColumn). c.kind) run.columns) ≡ true) rows i row (kinds_there rows run.columns (stands_added rows run turns stands)) there,
        values_all w.schema x.cells ∙ values_fit w run turns (turns +ℤ pos 1) v stands fits own_ticks i x next.1.0,
      )

  -- the inserts of the steps are accepted, and write the run
  pub run_acted : (N : Type 0) (note : Note N) (set_note : SetNote N) → NotesSets note set_note → (notes : List N) → acted (act note) (inserts w run.mask run.steps) (staged w notes)
      ≡ Ok (tt, staged (with_run w run (turns +ℤ pos 1) (Same w.tick)) (notes ++ rows_notes N set_note w.tick run.steps rows))
  run_acted N note set_note sets notes =
      let written = run_written w run (turns +ℤ pos 1) (Same w.tick) v long (standing_runs_can_be_put w run turns (turns +ℤ pos 1) v stands fits) in
      all_acted N note set_note sets w run.mask run.steps (rows_with_rows rows (rows_after run (turns +ℤ pos 1) (Same w.tick))) notes v
      (turn_writes_steps rows run turns own_ticks w.tick ascend apart are long stands has_ticks fits) (can_all w.schema run.steps rows can_insert)
      ∙ (λ i. Ok (tt, staged (sym written.is i) (notes ++ rows_notes N set_note w.tick run.steps rows)))

-- ---- a world, which notes nothing

-- a table that is lent has the rows of its kind set, and some
pub some_table : (o : Option (Row × List Row)) (rows : List Row) → Some rows ≡ option_map whole o → (rows ≡ listed o) × (0 < length rows)
some_table None rows h = absurd (let k : Some rows ≡ None = h in cc)
some_table (Some p) rows h = let e : rows ≡ whole p = cc in (e, subst (λ (rs : List Row). 0 < length rs) (sym e) (omega arith))

pub none_table : (o : Option (Row × List Row)) → None ≡ option_map whole o → listed o ≡ []
none_table None h = refl
none_table (Some p) h = absurd (let k : None ≡ Some (whole p) = h in cc)

-- what a world is after steps: all sums fit, and their inserts make it
abbrev pub AreWritten : Type 0 → World → KindSet → List RowStep → World → Type 0
AreWritten N w mask steps new = FitAll steps (rows_at w.tables mask) × (acted (act {N = N} (λ u c. [])) (inserts w mask steps) (staged w []) ≡ Ok (tt, staged new []))

pub none_written : (N : Type 0) (w : World) (mask : KindSet) (steps : List RowStep) → rows_at w.tables mask ≡ [] → AreWritten N w mask steps w
none_written N w mask steps e =
    subst (λ (rows : List Row). FitAll steps rows × (acted (act {N = N} (λ u c. [])) (flat_map (λ row. inserts_of row.entity (written_values steps row)) rows) (staged w []) ≡ Ok (tt, staged w []))) (sym e)
    (λ k d l. absurd (omega arith), refl)

pub run_written_steps : (N : Type 0) (w : World) (run : RunState) (mask : KindSet) (steps : List RowStep) → IsValid w → run.mask ≡ mask → run.steps ≡ steps → AreApart steps → AreColumnsFor run.steps run.columns
    → AreLongFor run.entities run.columns → Stands (rows_at w.tables mask) run (pos 0) → HoldsAt run (pos 1) → AreWritten N w mask steps (with_run w run (pos 1) (Same w.tick))
run_written_steps N w run mask steps v e f apart are long stands fits =
    let own_apart = subst AreApart (sym f) apart in
    let own_stands = subst (λ m. Stands (rows_at w.tables m) run (pos 0)) (sym e) stands in
    let new = with_run w run (pos 1) (Same w.tick) in
    subst (λ (p : KindSet × List RowStep). AreWritten N w p.0 p.1 new) (λ i. (e i, f i)) (
      all_fit w run (pos 0) v own_apart are long own_stands fits,
      run_acted w run (pos 0) v own_apart are long own_stands fits N (λ u c. []) (no_note N w.tick) (λ u e kind value old valid there. refl) []
          ∙ (λ i. Ok (tt, staged new (none_all N w.tick run.steps (rows_at w.tables run.mask) i))),
    )
