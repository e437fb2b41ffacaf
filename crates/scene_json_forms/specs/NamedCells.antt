-- What the printers of a world write of its resources, name by name. What is written doesn't rest on these words.
use Rattle.std.specs.Prelude.{ℕ, List, [], ◌∷◌, ◌++◌, Option, Some, None}
use Rattle.scene_kinds.specs.declared.cell.Cell.{Cell}
use Rattle.scene_resources.specs.Resources.{NamedCells, cell_of}

-- what is made of names with the cells that they have, one after another
abbrev pub by_names : {X : Type 0} → (List ℕ → Option Cell → List X) → NamedCells → List (List ℕ) → List X
by_names one r [] = []
by_names one r (n ∷ ns) = one n (cell_of r n) ++ by_names one r ns

-- a name with its cell, where it has one
abbrev pub named : List ℕ → Option Cell → List (List ℕ × Cell)
named name None = []
named name (Some cell) = (name, cell) ∷ []

-- those of names that have a cell, with it
abbrev pub named_cells : NamedCells → List (List ℕ) → List (List ℕ × Cell)
named_cells r names = by_names named r names
