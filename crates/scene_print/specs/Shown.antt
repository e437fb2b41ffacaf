-- How a world prints.
use Rattle.std.specs.Prelude.{ℕ, ◌+◌, List, [], ◌∷◌, ◌++◌, if◌then◌else◌, codes, decimal}
use Rattle.scene_kinds.specs.declared.cells.Row.{Row}
use Rattle.scene_kinds.specs.declared.cell.Cell.{Cell}
use Rattle.scene_kinds.specs.declared.entity.Entity.{Entity}
use Rattle.scene_kinds.specs.Entity.{entity_text}
use Rattle.scene_kinds.specs.KindSet.{KindSet, has_kind}
use Rattle.scene_kinds.specs.Schema.{Kinds}
use Rattle.scene_kinds.specs.Shape.{shape_name, shape_of_value}
use Rattle.scene_links.specs.Forest.{Forest, children_of, parents}
use Rattle.scene_model.specs.World.{World, kind_sets}
use Rattle.scene_table.specs.Tables.{rows_at}
use Rattle.scene_print.specs.Printed.{cell_text, row_text}

-- numbers, each after a space (32)
abbrev pub numbers_text : List ℕ → List ℕ
numbers_text [] = []
numbers_text (n ∷ ns) = 32 ∷ (decimal n ++ numbers_text ns)

-- the names of the kinds from number k on that a kind set has
abbrev pub names_from : Kinds → ℕ → KindSet → List (List ℕ)
names_from [] k mask = []
names_from (s ∷ ss) k mask = if has_kind mask k then s.0 ∷ names_from ss (k + 1) mask else names_from ss (k + 1) mask

-- names, each after a comma (44)
abbrev pub more_names : List (List ℕ) → List ℕ
more_names [] = []
more_names (n ∷ ns) = 44 ∷ (n ++ more_names ns)

-- names with commas between them, - for none
abbrev pub names_text : List (List ℕ) → List ℕ
names_text [] = codes "-"
names_text (n ∷ ns) = n ++ more_names ns

-- rows, a line each (10 ends a line)
abbrev pub rows_text : Kinds → List Row → List ℕ
rows_text kinds [] = []
rows_text kinds (r ∷ rs) = row_text kinds r ++ (10 ∷ rows_text kinds rs)

-- a kind set by its names, and its rows
abbrev pub table_text : Kinds → KindSet → List Row → List ℕ
table_text kinds mask rows = codes "table " ++ (names_text (names_from kinds 0 mask) ++ (10 ∷ rows_text kinds rows))

-- the tables of kind sets
abbrev pub tables_text : World → List KindSet → List ℕ
tables_text w [] = []
tables_text w (mask ∷ masks) = table_text w.schema mask (rows_at w.tables mask) ++ tables_text w masks

-- entities, each after a space (32)
abbrev pub entities_text : List Entity → List ℕ
entities_text [] = []
entities_text (e ∷ es) = 32 ∷ (entity_text e.index e.generation ++ entities_text es)

-- a parent, and its children in their order
abbrev pub link_text : Forest → Entity → List ℕ
link_text forest parent = codes "link" ++ (entities_text (parent ∷ children_of forest parent) ++ codes "\n")

-- the links of parents, a line each
abbrev pub links_text : Forest → List Entity → List ℕ
links_text forest [] = []
links_text forest (p ∷ ps) = link_text forest p ++ links_text forest ps

-- a name, and its cell with the name of its shape
abbrev pub resource_text : List ℕ → Cell → List ℕ
resource_text name cell = codes "resource " ++ (name ++ (codes " " ++ (cell_text (shape_name (shape_of_value cell.value)) cell ++ codes "\n")))

-- resources, a line each
abbrev pub resources_text : List (List ℕ × Cell) → List ℕ
resources_text [] = []
resources_text (r ∷ rs) = resource_text r.0 r.1 ++ resources_text rs

-- the tick, the generations and the free list, a line each
abbrev pub head_text : World → List ℕ
head_text w =
    codes "tick " ++ (decimal w.tick ++ (codes "\ngens" ++ (numbers_text w.slots.generations
    ++ (codes "\nfree" ++ (numbers_text w.slots.free ++ codes "\n")))))

-- then the tables of the kind sets with rows, ascending, the links of the entities with children, by index, and the
-- resources, by the bytes of their names
abbrev pub show_text : World → List ℕ
show_text w = head_text w ++ (tables_text w (kind_sets w) ++ (links_text w.children (parents w.children) ++ resources_text w.resources.entries))
