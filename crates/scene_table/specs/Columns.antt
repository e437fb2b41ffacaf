-- Columns: the cells of one kind, and the rows that a table's columns make.
use Rattle.std.specs.Prelude.{◌≡◌, ℕ, ◌<◌, ◌≤◌, min, length, List, [], ◌∷◌, map, All, Some, slice_get, nat_eq, cond, Bool, true, ◌&&◌}
use Rattle.std.specs.Option.{option_map}
use Rattle.std.specs.Ordering.{nat_cmp, is_lt}
use Rattle.scene_kinds.specs.Cells.{HasKinds}
use Rattle.scene_kinds.specs.declared.cell.Cell.{Cell}
use Rattle.scene_kinds.specs.declared.cells.Row.{Row}
use Rattle.scene_kinds.specs.declared.entity.Entity.{Entity}
use Rattle.scene_kinds.specs.declared.value.Value.{Value}
use Rattle.scene_kinds.specs.KindSet.{KindSet}
use Rattle.scene_table.specs.Rows.{swap_out, put_back}

-- two lists, made one element by element
abbrev pub zip_with : {X Y Z : Type 0} → (X → Y → Z) → List X → List Y → List Z
zip_with f [] ys = []
zip_with f (x ∷ xs) [] = []
zip_with f (x ∷ xs) (y ∷ ys) = f x y ∷ zip_with f xs ys

-- the cell of a value, with the ticks at which it was added and last changed
abbrev pub stamped : Value → ℕ × ℕ → Cell
stamped value ticks = record { value = value; added = ticks.0; changed = ticks.1 }

-- the tick at which a cell was added, and that at which it was last changed
abbrev pub ticks : ℕ → ℕ → ℕ × ℕ
ticks added changed = (added, changed)

-- the cells of values and their ticks
abbrev pub cells_of : List Value → List ℕ → List ℕ → List Cell
cells_of values added changed = zip_with stamped values (zip_with ticks added changed)

-- what contracts see of a column: its kind, its cells in the order of the rows, and for how many there is memory
pub record ColumnState : Type 0 where
  pub kind : ℕ
  pub cells : List Cell
  pub capacity : ℕ

-- the lists of a column are as long as one another
pub record IsColumn (values : List Value) (added changed : List ℕ) : Type 0 where
  pub ticks_added : length added ≡ length values
  pub ticks_changed : length changed ≡ length values

-- the column after the cell of a row left
abbrev pub out_of_column : ℕ → ColumnState → ColumnState
out_of_column at column = record column { cells = swap_out column.cells at }

-- the column after a cell was put back at a place
abbrev pub back_in_column : ℕ → ColumnState → Cell → ColumnState
back_in_column at column cell = record column { cells = put_back column.cells at cell }

-- the columns after the cells of a row were put back at a place, one in each column
abbrev pub put_each : ℕ → List (ℕ × Cell) → List ColumnState → List ColumnState
put_each at [] columns = columns
put_each at (cell ∷ cells) [] = []
put_each at (cell ∷ cells) (column ∷ columns) = back_in_column at column cell.1 ∷ put_each at cells columns

-- the columns, the first of a kind with other cells
abbrev pub with_cells_of : ℕ → (ColumnState → List Cell) → List ColumnState → List ColumnState
with_cells_of kind cells [] = []
with_cells_of kind cells (column ∷ columns) = cond (nat_eq kind column.kind) (record column { cells = cells column } ∷ columns) (column ∷ with_cells_of kind cells columns)

-- the kinds of columns
abbrev pub kinds_of : List ColumnState → List ℕ
kinds_of columns = map (λ column. column.kind) columns

-- the kinds of a row's cells
abbrev pub kinds_in : List (ℕ × Cell) → List ℕ
kinds_in cells = map (λ cell. cell.0) cells

-- a kind is below each of a list
abbrev pub is_below : ℕ → List ℕ → Bool
is_below k [] = true
is_below k (j ∷ js) = is_lt (nat_cmp k j) && is_below k js

-- kinds strictly rise
abbrev pub rises : List ℕ → Bool
rises [] = true
rises (k ∷ ks) = is_below k ks && rises ks

-- the cells that columns have at a place
abbrev pub AreCellsAt : List ColumnState → ℕ → List (ℕ × Cell) → Type 0
AreCellsAt columns at cells = map (λ column. option_map (λ cell. (column.kind, cell)) (slice_get column.cells at)) columns
    ≡ map (λ cell. Some cell) cells

-- each column has this many cells
abbrev pub AreLong : ℕ → List ColumnState → Type 0
AreLong count columns = All (λ column. length column.cells ≡ count) columns

-- a column has a place for one more cell
pub record HasRoomAt (at : ℕ) (column : ColumnState) : Type 0 where
  pub within : at ≤ length column.cells
  pub room : length column.cells < column.capacity

-- a column has the kind and the cells of another
pub record IsSameColumn (old new : ColumnState) : Type 0 where
  pub kind : new.kind ≡ old.kind
  pub cells : new.cells ≡ old.cells

-- and memory for no fewer cells
pub record IsGrown (old new : ColumnState) : Type 0 where
  pub same : IsSameColumn old new
  pub wide : old.capacity ≤ new.capacity

-- the row with a cell before its others
abbrev pub with_first : ℕ → Cell → Row → Row
with_first kind cell row = record row { cells = (kind, cell) ∷ row.cells }

-- the rows of a table: each entity with its cell from each column
abbrev pub rows_of : List Entity → List ColumnState → List Row
rows_of entities [] = map (λ entity. record { entity = entity; cells = [] }) entities
rows_of entities (column ∷ columns) = zip_with (with_first column.kind) column.cells (rows_of entities columns)

-- the least of a number and the numbers of cells for which columns have memory
abbrev pub least : ℕ → List ColumnState → ℕ
least capacity [] = capacity
least capacity (column ∷ columns) = min column.capacity (least capacity columns)

-- a row with just the kinds of these columns, in order, has just the kinds of a set
abbrev pub AreColumnsOf : KindSet → List ColumnState → Type 0
AreColumnsOf mask columns = (row : Row) → kinds_in row.cells ≡ kinds_of columns → HasKinds mask row

-- what holds in a table: its columns are as long as its entities, once it has memory they are those of its kinds, and
-- its rows fit
pub record IsTable (mask : KindSet) (entities : List Entity) (capacity : ℕ) (columns : List ColumnState) : Type 0 where
  pub long : AreLong (length entities) columns
  pub kinds : 0 < capacity → AreColumnsOf mask columns
  pub fits : length entities ≤ least capacity columns
