-- How a list of cells prints.
use Rattle.std.specs.Prelude.{List, [], ◌∷◌, ◌++◌, ℕ, codes, decimal, length}
use Rattle.scene_kinds.specs.Entity.{entity_text}
use Rattle.scene_kinds.specs.Schema.{Kinds}
use Rattle.scene_pass.specs.declared.cell_name.CellName.{CellName}
use Rattle.scene_print.specs.Printed.{kind_text}

-- the entity of a cell, and the name of its kind
abbrev pub cell_name_text : Kinds → CellName → List ℕ
cell_name_text kinds c = entity_text c.entity.index c.entity.generation ++ (codes " " ++ (kind_text kinds c.kind ++ codes "\n"))

-- the names of cells, a line each
abbrev pub cell_names_text : Kinds → List CellName → List ℕ
cell_names_text kinds [] = []
cell_names_text kinds (c ∷ cs) = cell_name_text kinds c ++ cell_names_text kinds cs

-- a word and the number of cells, and then their names
abbrev pub listed_text : List ℕ → Kinds → List CellName → List ℕ
listed_text word kinds cells = word ++ (codes " " ++ (decimal (length cells) ++ (codes "\n" ++ cell_names_text kinds cells)))
