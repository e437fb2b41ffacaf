-- The cells of a row, a list of kinds with cells, and the kind set that they make.
use Rattle.std.specs.Prelude.{◌≡◌, ◌<◌, ℕ, ◌^◌, T, true, List, [], ◌∷◌, ◌++◌, Option, Some, None, not, nat_lt, length, slice_index_or, slice_set, insert, remove, sum_by}
use Rattle.std.specs.List.{list_all}
use Rattle.std.specs.Ordering.{nat_cmp, eq_by_cmp}
use Rattle.std.specs.FinMap.Entries.{put, find, where_key, is_sorted}
use Rattle.scene_kinds.specs.declared.cell.Cell.{Cell}
use Rattle.scene_kinds.specs.declared.cell.CellRef.{CellRef}
use Rattle.scene_kinds.specs.declared.cells.Row.{Row}
use Rattle.scene_kinds.specs.declared.value.Value.{Value}
use Rattle.scene_kinds.specs.KindSet.{KindSet}

-- a cell that is added at a tick
abbrev pub new_cell : ℕ → Value → Cell
new_cell tick value = record { value = value; added = tick; changed = tick }

-- a value put at a tick where a cell may stand: the cell keeps the tick at which it was added
abbrev pub put_over : Option Cell → Value → ℕ → Cell
put_over None value tick = new_cell tick value
put_over (Some old) value tick = record { value = value; added = old.added; changed = tick }

-- the kinds strictly ascend
abbrev pub IsAscending : List (ℕ × Cell) → Type 0
IsAscending cells = T (is_sorted nat_cmp cells)

-- the cell of a kind, if it is there
abbrev pub cell_of : List (ℕ × Cell) → ℕ → Option Cell
cell_of cells kind = find nat_cmp kind cells

-- the cells with this cell of a kind, at its place or in place of the one that was there
abbrev pub with_cell : List (ℕ × Cell) → ℕ → Cell → List (ℕ × Cell)
with_cell cells kind cell = put nat_cmp kind cell cells

-- the cells but for the one of a kind
abbrev pub without_cell : List (ℕ × Cell) → ℕ → List (ℕ × Cell)
without_cell cells kind = where_key nat_cmp (λ k. not (eq_by_cmp nat_cmp kind k)) cells

-- the kind set of a list of cells: kind k is bit k
abbrev pub mask_of : List (ℕ × Cell) → KindSet
mask_of cells = sum_by (λ c. 2 ^ c.0) cells

-- each kind is below a bound, as the number of kinds of a schema
abbrev pub AreKindsBelow : ℕ → List (ℕ × Cell) → Type 0
AreKindsBelow bound cells = list_all (λ c. nat_lt c.0 bound) cells ≡ true

-- a row has just the kinds of a set, ascending
pub record HasKinds (mask : KindSet) (row : Row) : Type 0 where
  pub ascending : IsAscending row.cells
  pub kinds : mask_of row.cells ≡ mask

-- where the cell of a kind stands
pub record IsPlaceOf (cells : List (ℕ × Cell)) (kind at : ℕ) : Type 0 where
  pub within : at < length cells
  pub found : (d : ℕ × Cell) → cell_of cells kind ≡ Some (slice_index_or cells at d).1
  pub key : (d : ℕ × Cell) → (slice_index_or cells at d).0 ≡ kind

-- to take out what stands at a place is to take out a kind
abbrev pub IsTakenAt : ℕ → List (ℕ × Cell) → ℕ → Type 0
IsTakenAt kind cells at = IsAscending cells → remove cells at ≡ without_cell cells kind

-- where a cell of a kind goes: in place of what stands there, if that is of the kind, and else before it
pub record IsNext (kind : ℕ) (cells : List (ℕ × Cell)) (at : ℕ) : Type 0 where
  pub within : at < length cells
  pub same : (d : ℕ × Cell) (cell : Cell) → (slice_index_or cells at d).0 ≡ kind → slice_set cells at (kind, cell) ≡ with_cell cells kind cell
  pub other : (d : ℕ × Cell) (cell : Cell) → ((slice_index_or cells at d).0 ≡ kind → ⊥) → insert cells at (kind, cell) ≡ with_cell cells kind cell

-- a cell of a kind goes after all others
abbrev pub GoesLast : ℕ → List (ℕ × Cell) → Type 0
GoesLast kind cells = (cell : Cell) → cells ++ (kind, cell) ∷ [] ≡ with_cell cells kind cell

-- the cell that a reference shows
abbrev pub shown : CellRef → Cell
shown r = record { value = r.value.now; added = r.added; changed = r.changed }
