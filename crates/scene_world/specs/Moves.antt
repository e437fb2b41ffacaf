-- Where a row may move to the table with one kind more or less, at a place, in the room that there is.
use Rattle.std.specs.Prelude.{◌≡◌, ℕ, ◌<◌, ◌≤◌, List, Bool, true, false, Some, None, length}
use Rattle.scene_kinds.specs.declared.cell.Cell.{Cell}
use Rattle.scene_kinds.specs.declared.cells.Row.{Row}
use Rattle.scene_kinds.specs.Cells.{HasKinds, AreKindsBelow, cell_of, mask_of}
use Rattle.scene_kinds.specs.KindSet.{KindSet, set_with, set_without}
use Rattle.scene_table.specs.declared.home.Home.{Home}
use Rattle.scene_table.specs.Tables.{rows_at}
use Rattle.scene_archetypes.specs.KindTables.{capacity_at}
use Rattle.scene_archetypes.specs.Archetypes.{ArchetypesState}
use Rattle.scene_model.specs.Raw.{shifted}

-- inward the cells have no cell of the kind; else they have this one
abbrev pub IsCellToMove : List (ℕ × Cell) → ℕ → Cell → Bool → Type 0
IsCellToMove cells kind cell true = cell_of cells kind ≡ None
IsCellToMove cells kind cell false = cell_of cells kind ≡ Some cell

-- the kind set with one kind more, or less
abbrev pub moved_mask : KindSet → ℕ → Bool → KindSet
moved_mask mask kind true = set_with mask kind
moved_mask mask kind false = set_without mask kind

-- a row of a kind set, with the cell to come or to go, a place where it goes, and room for it there
pub record MayMove (t : ArchetypesState) (home : Home) (place kind : ℕ) (cell : Cell) (inward : Bool) (row : Row) : Type 0 where
  pub kinds : HasKinds home.mask row
  pub below : AreKindsBelow 64 row.cells
  pub moves : IsCellToMove row.cells kind cell inward
  pub within : place ≤ length (rows_at t.tables (mask_of (shifted row.cells kind cell inward)))
  pub room : length (rows_at t.tables (mask_of (shifted row.cells kind cell inward))) < capacity_at t.rooms
      (mask_of (shifted row.cells kind cell inward))
