-- Cells put one after another into cells that are there, the last first.
use Rattle.std.specs.Prelude.{ℕ, List, [], ◌∷◌}
use Rattle.scene_kinds.specs.declared.cell.Cell.{Cell}
use Rattle.scene_kinds.specs.declared.value.Value.{Value}
use Rattle.scene_kinds.specs.Cells.{new_cell, with_cell}

-- each given cell, new at this tick, in the place of one of its kind
abbrev pub cells_onto : ℕ → List (ℕ × Value) → List (ℕ × Cell) → List (ℕ × Cell)
cells_onto tick [] cells = cells
cells_onto tick (c ∷ cs) cells = with_cell (cells_onto tick cs cells) c.0 (new_cell tick c.1)
