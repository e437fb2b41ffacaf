-- The cells of a row that comes to a table.
use Rattle.std.specs.Prelude.{◌≡◌, ⊤, ℕ, List, false}
use Rattle.scene_kinds.specs.declared.cell.Cell.{Cell}
use Rattle.scene_table.specs.Plain.{has_text}
use Rattle.scene_table.specs.declared.row_cells.Source.{Source}
use Rattle.scene_table.specs.declared.row_cells.Source.TheVariants.{Own, Lent}

-- the cells
abbrev pub cells_from : Source → List (ℕ × Cell)
cells_from (Own cells) = cells
cells_from (Lent cells) = cells.now

-- those that are lent are copied, and so have no text
abbrev pub CanCopy : Source → Type 0
CanCopy (Own cells) = ⊤
CanCopy (Lent cells) = has_text cells.now ≡ false
