-- How the cells of a row are held.
use Rattle.std.specs.Prelude.{ℕ, List, [], ◌∷◌}
use Rattle.scene_kinds.specs.declared.cell.Cell.{Cell}
use Rattle.scene_kinds.specs.declared.held.Held.{Held}
use Rattle.scene_kinds.specs.declared.held.Held.TheVariants.{Empty, Lone, Many}

-- the cells that are held
abbrev pub held_cells : Held → List (ℕ × Cell)
held_cells Empty = []
held_cells (Lone c) = c ∷ []
held_cells (Many cs) = cs.items
