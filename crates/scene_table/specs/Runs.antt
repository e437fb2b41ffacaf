-- What a run writes: the same row steps over all rows of a table, turn by turn.
use Rattle.std.specs.Prelude.{◌≡◌, ⊤, ℕ, ◌+◌, ◌*◌, ◌^◌, ◌<◌, ◌≤◌, List, [], ◌∷◌, ◌++◌, true, false, ℤ, ◌+ℤ◌, ◌*ℤ◌, ◌<ℤ◌, pos, map, length, All, Option, Some, None, Result, Ok, Err, option_map, slice_get, slice_index_or, replicate, Bool, T, unsigned_abs, nat_eq, IsSome}
use Rattle.std.specs.List.{filter, list_all, list_any}
use Rattle.scene_kinds.specs.declared.entity.Entity.{Entity}
use Rattle.scene_kinds.specs.declared.cell.Cell.{Cell}
use Rattle.scene_kinds.specs.declared.cells.Row.{Row}
use Rattle.scene_kinds.specs.declared.value.Value.{Value}
use Rattle.scene_kinds.specs.declared.value.Value.TheVariants.{Int, Vec3}
use Rattle.scene_kinds.specs.Cells.{cell_of, with_cell}
use Rattle.scene_kinds.specs.KindSet.{KindSet, has_kind}
use Rattle.scene_kinds.specs.Ranges.{is_in_range}
use Rattle.scene_table.specs.declared.row_step.RowStep.{RowStep}
use Rattle.scene_table.specs.declared.row_step.RowStep.TheVariants.{AddVec, AddInt}
use Rattle.scene_table.specs.RowStep.{is_written, target}
use Rattle.scene_table.specs.Steps.{Values, values_of, step_on, value_sum, after_steps}
use Rattle.scene_table.specs.declared.reach.Reach.{Reach}
use Rattle.scene_table.specs.declared.series.Series.{Series}
use Rattle.scene_table.specs.declared.series.Series.TheVariants.{Ints, Vecs}
use Rattle.scene_table.specs.declared.run.RunColumn.{RunColumn}
use Rattle.scene_table.specs.Table.{TableState}
use Rattle.scene_table.specs.Columns.{ColumnState, cells_of, rises, rows_of, with_cells_of, zip_with}

-- ---- steps

-- the kinds that a step adds
abbrev pub read_kinds : RowStep → List ℕ
read_kinds (AddVec to by) = by ∷ []
read_kinds (AddInt to by) = []

-- the kind whose vectors a step adds
abbrev pub added_kind : RowStep → Option ℕ
added_kind (AddVec to by) = Some by
added_kind (AddInt to by) = None

-- a kind is added to others by one of the steps
abbrev pub is_read : List RowStep → ℕ → Bool
is_read steps kind = list_any (λ s. list_any (λ k. nat_eq k kind) (read_kinds s)) steps

-- steps write each its own kind, and add none that is written
pub record AreApart (steps : List RowStep) : Type 0 where
  pub own : (i j : ℕ) (s t : RowStep) → slice_get steps i ≡ Some s → slice_get steps j ≡ Some t → target s ≡ target t → i ≡ j
  pub unread : All (λ s. All (λ kind. is_written steps kind ≡ false) (read_kinds s)) steps

-- ---- turns

-- a number after so many turns, of which each adds the same
abbrev pub number_after : ℤ → ℤ → ℤ → ℤ
number_after base by turns = base +ℤ by *ℤ turns

-- a vector after so many turns
abbrev pub vector_after : List ℤ → List ℤ → ℤ → List ℤ
vector_after base by turns = zip_with (λ b d. number_after b d turns) base by

-- numbers after so many turns, and vectors
abbrev pub ints_after : List ℤ → ℤ → ℤ → List Value
ints_after base by turns = map (λ b. Int (number_after b by turns)) base

abbrev pub vecs_after : List (List ℤ) → List (List ℤ) → ℤ → List Value
vecs_after base by turns = zip_with (λ b d. Vec3 (vector_after b d turns)) base by

-- the values of a column after so many turns
abbrev pub grown : Series → ℤ → List Value
grown (Ints base by) turns = ints_after base.items by turns
grown (Vecs base by) turns = vecs_after base.items by.items turns

-- each value is one that its type can hold
abbrev pub AreInRange : List Value → Type 0
AreInRange values = list_all is_in_range values ≡ true

-- ---- bounds

-- no number of a list is farther from zero
abbrev pub AreNear : ℕ → List ℤ → Type 0
AreNear most numbers = All (λ n. unsigned_abs n ≤ most) numbers

-- three numbers, of which none is farther from zero
abbrev pub IsNear : ℕ → List ℤ → Type 0
IsNear most vector = (length vector ≡ 3) × AreNear most vector

-- in a series no number is farther from zero than a bound before the first turn, and none that a turn adds
abbrev pub IsBound : Reach → Series → Type 0
IsBound reach (Ints base by) = AreNear reach.before base.items × (unsigned_abs by ≤ reach.each)
IsBound reach (Vecs base by) = All (IsNear reach.before) base.items × All (IsNear reach.each) by.items

-- ---- sums

-- a value is a number, or a vector
abbrev pub is_number : Value → Bool
is_number (Int n) = true
is_number value = false

abbrev pub is_vector : Value → Bool
is_vector (Vec3 parts) = true
is_vector value = false

-- each turn adds this number to each value of a series
abbrev pub IsIntsBy : ℤ → Series → Type 0
IsIntsBy by (Ints base each) = each ≡ by
IsIntsBy by (Vecs base each) = ⊥

-- each turn adds to each value of a series its own of these
abbrev pub IsVecsBy : List Value → Series → Type 0
IsVecsBy addends (Ints base by) = ⊥
IsVecsBy addends (Vecs base by) = addends ≡ map Vec3 by.items

-- the first sums of values and what is added to them
abbrev pub int_sums : List Value → ℤ → List (Option Value)
int_sums values by = map (λ value. value_sum value (Int by)) values

abbrev pub vec_sums : List Value → List Value → List (Option Value)
vec_sums values addends = zip_with value_sum values addends

-- ---- runs

-- a run, as contracts see it: the kind set of its table, its steps, the entities of the rows, and the columns that it
-- writes, ascending by kind
pub record RunState : Type 0 where
  pub mask : KindSet
  pub steps : List RowStep
  pub entities : List Entity
  pub columns : List RunColumn

-- each column has a cell for each entity
abbrev pub AreLongFor : List Entity → List RunColumn → Type 0
AreLongFor entities columns =
    All (λ c. (length c.added.items ≡ length entities) × (length (grown c.series (pos 0)) ≡ length entities)) columns

-- the kind of each column is one of a set
abbrev pub AreKindsOf : KindSet → List RunColumn → Type 0
AreKindsOf mask columns = All (λ c. has_kind mask c.kind ≡ true) columns

-- and in each no number is farther from zero than its bounds
abbrev pub AreBounded : List RunColumn → Type 0
AreBounded columns = All (λ c. IsBound c.reach c.series) columns

-- each turn adds to a column what a step does; what vectors are added, the rows have
abbrev pub AddsAs : RowStep → Series → Type 0
AddsAs (AddVec to by) (Ints base each) = ⊥
AddsAs (AddVec to by) (Vecs base each) = ⊤
AddsAs (AddInt to by) series = IsIntsBy by series

-- a column is the one that a step writes
pub record IsColumnOf (s : RowStep) (c : RunColumn) : Type 0 where
  pub kind : c.kind ≡ target s
  pub by : c.by ≡ added_kind s
  pub adds : AddsAs s c.series

-- columns are those that steps write, ascending by kind
pub record AreColumnsFor (steps : List RowStep) (columns : List RunColumn) : Type 0 where
  pub each : (at : ℕ) (s : RowStep) → slice_get steps at ≡ Some s → (n : ℕ) × (c : RunColumn) × (slice_get columns n ≡ Some c) × IsColumnOf s c
  pub only : (n : ℕ) (c : RunColumn) → slice_get columns n ≡ Some c → is_written steps c.kind ≡ true
  pub rising : T (rises (map (λ c. c.kind) columns))

-- what holds in a run
pub record IsRun (mask : KindSet) (steps : List RowStep) (entities : List Entity) (columns : List RunColumn) : Type 0 where
  pub are : AreColumnsFor steps columns
  pub kinds : AreKindsOf mask columns
  pub long : AreLongFor entities columns
  pub bounded : AreBounded columns

-- no number is outside of the 64-bit numbers with sign after so many turns
abbrev pub HoldsAt : RunState → ℤ → Type 0
HoldsAt run turns = All (λ c. AreInRange (grown c.series turns)) run.columns

-- the ticks at which the cells of a run's columns were changed: one for all, or those of each column
pub data Changed : Type 0 where
  Same : ℕ → Changed
  Each : List (List ℕ) → Changed

-- those of the column of a number, of which there are so many
abbrev pub changed_of : Changed → ℕ → ℕ → List ℕ
changed_of (Same tick) number count = replicate count tick
changed_of (Each columns) number count = slice_index_or columns number []

-- the columns of a run after so many turns, counted from a number
abbrev pub columns_after : ℕ → List RunColumn → ℤ → Changed → List ColumnState
columns_after number [] turns changed = []
columns_after number (c ∷ cs) turns changed =
    record { kind = c.kind; cells = cells_of (grown c.series turns) c.added.items (changed_of changed number (length c.added.items)); capacity = 0 }
    ∷ columns_after (number + 1) cs turns changed

-- the cells of a table's column after so many turns of a run's column of a number: they keep their added ticks
abbrev pub turned : ℕ → RunColumn → ℤ → Changed → ColumnState → List Cell
turned number c turns changed column = cells_of (grown c.series turns) (map (λ cell. cell.added) column.cells) (changed_of changed number (length column.cells))

-- columns with what a run's columns have after so many turns, counted from a number
abbrev pub all_turned : ℕ → List RunColumn → ℤ → Changed → List ColumnState → List ColumnState
all_turned number [] turns changed columns = columns
all_turned number (c ∷ cs) turns changed columns = all_turned (number + 1) cs turns changed (with_cells_of c.kind (turned number c turns changed) columns)

-- what a run has written after so many turns: rows with just the kinds that it writes
abbrev pub rows_after : RunState → ℤ → Changed → List Row
rows_after run turns changed = rows_of run.entities (columns_after 0 run.columns turns changed)

-- a row with cells put over its own
abbrev pub with_cells : Row → List (ℕ × Cell) → Row
with_cells row [] = row
with_cells row (c ∷ cs) = with_cells (record row { cells = with_cell row.cells c.0 c.1 }) cs

-- rows with the cells of other rows put over their own, row by row
abbrev pub rows_with_rows : List Row → List Row → List Row
rows_with_rows rows written = zip_with (λ row w. with_cells row w.cells) rows written

-- ---- rows of which a run goes on

-- the values of a kind in rows, and the ticks at which its cells were added
abbrev pub values_in : List Row → ℕ → List (Option Value)
values_in rows kind = map (λ row. option_map (λ cell. cell.value) (cell_of row.cells kind)) rows

abbrev pub added_in : List Row → ℕ → List (Option ℕ)
added_in rows kind = map (λ row. option_map (λ cell. cell.added) (cell_of row.cells kind)) rows

-- the ticks at which the cells of a kind in rows were changed
abbrev pub changed_in : List Row → ℕ → List (Option ℕ)
changed_in rows kind = map (λ row. option_map (λ cell. cell.changed) (cell_of row.cells kind)) rows

-- rows have the vectors that each turn adds to a column, where it adds those of a kind
abbrev pub HaveAddends : List Row → Option ℕ → Series → Type 0
HaveAddends rows (Some kind) (Vecs base by) = values_in rows kind ≡ map (λ vector. Some (Vec3 vector)) by.items
HaveAddends rows by series = ⊤

-- rows have in a column's kind what it has after so many turns, and what each turn adds
pub record StandsColumn (rows : List Row) (turns : ℤ) (c : RunColumn) : Type 0 where
  pub values : values_in rows c.kind ≡ map (λ value. Some value) (grown c.series turns)
  pub added : added_in rows c.kind ≡ map (λ tick. Some tick) c.added.items
  pub addends : HaveAddends rows c.by c.series

-- the rows of a table stand so that so many turns of a run may have been before
pub record Stands (rows : List Row) (run : RunState) (turns : ℤ) : Type 0 where
  pub entities : run.entities ≡ map (λ row. row.entity) rows
  pub columns : All (StandsColumn rows turns) run.columns

-- the rows of a table have in a kind just numbers, or just vectors
abbrev pub AreNumbersIn : List Row → ℕ → Type 0
AreNumbersIn rows kind = (values : List Value) → values_in rows kind ≡ map (λ value. Some value) values → list_all is_number values ≡ true

abbrev pub AreVectorsIn : List Row → ℕ → Type 0
AreVectorsIn rows kind = (values : List Value) → values_in rows kind ≡ map (λ value. Some value) values → list_all is_vector values ≡ true

-- a table has the kinds that a step names, of the shapes that it adds
abbrev pub CanStep : TableState → RowStep → Type 0
CanStep t (AddVec to by) = (has_kind t.mask to ≡ true) × (has_kind t.mask by ≡ true) × AreVectorsIn t.rows to × AreVectorsIn t.rows by
CanStep t (AddInt to by) = (has_kind t.mask to ≡ true) × AreNumbersIn t.rows to

-- a column of a run before its first turn, over the rows of a table
pub record IsFirstColumn (t : TableState) (c : RunColumn) : Type 0 where
  pub has : has_kind t.mask c.kind ≡ true
  pub stands : StandsColumn t.rows (pos 0) c
  pub bound : IsBound c.reach c.series
  pub fits : AreInRange (grown c.series (pos 1))

-- a step whose sum doesn't fit in one of the rows
abbrev pub Overflows : List Row → RowStep → Type 0
Overflows rows s = All (λ row. IsSome (step_on s (values_of row))) rows → ⊥

-- one of these steps does
abbrev pub OneOverflows : List Row → List RowStep → Type 0
OneOverflows rows steps = (at : ℕ) × ((s : RowStep) × ((slice_get steps at ≡ Some s) × Overflows rows s))

-- the changed ticks of the cells of rows in the columns of a run, column by column
abbrev pub HasTicks : List Row → RunState → Changed → Type 0
HasTicks rows run before = (number : ℕ) (c : RunColumn) → slice_get run.columns number ≡ Some c
    → map (λ tick. Some tick) (changed_of before number (length rows))
    ≡ map (λ row. option_map (λ cell. cell.changed) (cell_of row.cells c.kind)) rows

-- ---- what a turn writes

-- of the values after steps, those that the steps wrote, where all sums fit
abbrev pub written_of : List RowStep → Result Values ℕ → Option Values
written_of steps (Ok values) = Some (filter (λ v. is_written steps v.0) values)
written_of steps (Err at) = None

abbrev pub written_values : List RowStep → Row → Option Values
written_values steps row = written_of steps (after_steps 0 steps (values_of row))

-- the cells of a row that steps write, as they stand
abbrev pub written_cells : List RowStep → Row → Row
written_cells steps row = record row { cells = filter (λ c. is_written steps c.0) row.cells }

-- after so many turns a run has what stands in the rows of a table in the kinds that steps write, and after one more
-- what the steps make of them
pub record GoesOn (rows : List Row) (steps : List RowStep) (run : RunState) (turns : ℤ) (before : Changed) : Type 0 where
  pub entities : run.entities ≡ map (λ row. row.entity) rows
  pub now : rows_after run turns before ≡ map (written_cells steps) rows
  pub next : map (λ row. Some (values_of row)) (rows_after run (turns +ℤ pos 1) before) ≡ map (written_values steps) rows

-- a turn of a run, after so many others: the ticks at which the cells were changed before, and the one of the turn
pub record TurnState : Type 0 where
  pub run : RunState
  pub turns : ℤ
  pub before : Changed
  pub tick : ℕ

-- the sums of a turn and of the one before it fit, the turns and the cells can be counted, and the ticks are as many as the cells
pub record IsTurn (t : TurnState) : Type 0 where
  pub now : HoldsAt t.run t.turns
  pub next : HoldsAt t.run (t.turns +ℤ pos 1)
  pub counted : (t.turns +ℤ pos 1) <ℤ pos (2 ^ 63)
  pub small : length t.run.entities * length t.run.columns < 2 ^ 64
  pub ticks : (number : ℕ) (c : RunColumn) → slice_get t.run.columns number ≡ Some c
      → length (changed_of t.before number (length t.run.entities)) ≡ length t.run.entities

-- the rows of a turn before it, and after it
abbrev pub rows_before_turn : TurnState → List Row
rows_before_turn t = rows_after t.run t.turns t.before

abbrev pub rows_after_turn : TurnState → List Row
rows_after_turn t = rows_after t.run (t.turns +ℤ pos 1) (Same t.tick)

-- the cells of a row with their kinds, each with the one after it
abbrev pub cells_both : Entity → List (ℕ × Cell) → List (ℕ × Cell) → List (Entity × ℕ × Cell × Cell)
cells_both e (b ∷ before) (a ∷ after) = (e, b.0, b.1, a.1) ∷ cells_both e before after
cells_both e before after = []

-- those of rows, row by row
abbrev pub rows_both : List Row → List Row → List (Entity × ℕ × Cell × Cell)
rows_both (b ∷ before) (a ∷ after) = cells_both b.entity b.cells a.cells ++ rows_both before after
rows_both before after = []

-- the cells that a turn writes, before it and after it: row by row, and in a row by kind
abbrev pub cells_of_turn : TurnState → List (Entity × ℕ × Cell × Cell)
cells_of_turn t = rows_both (rows_before_turn t) (rows_after_turn t)
