-- The JSON of worlds and of their parts (docs/SHELL.md, "JSON").
use Rattle.std.specs.Prelude.{ℕ, List, [], ◌∷◌, codes}
use Rattle.serde_json.specs.Data.{Data, string}
use Rattle.scene_kinds.specs.declared.cell.Cell.{Cell}
use Rattle.scene_kinds.specs.declared.cells.Row.{Row}
use Rattle.scene_kinds.specs.declared.entity.Entity.{Entity}
use Rattle.scene_kinds.specs.Entity.{entity_text}
use Rattle.scene_kinds.specs.KindSet.{KindSet, kinds_in}
use Rattle.scene_kinds.specs.Schema.{Kinds}
use Rattle.scene_links.specs.Forest.{Forest, children_of, parents}
use Rattle.scene_model.specs.World.{World, kind_sets}
use Rattle.scene_pass.specs.declared.cell_name.CellName.{CellName}
use Rattle.scene_table.specs.Tables.{rows_at}
use Rattle.scene_print.specs.Printed.{kind_text}
use Rattle.scene_json_forms.specs.Text.{object_of, list_text, count_text, entity_json, cell_text, resource_cell_text}
use Rattle.scene_print.specs.JsonObjects.{answer_of, object_by}

-- the name of a kind
abbrev pub kind_json : Kinds → ℕ → Data
kind_json kinds kind = string (kind_text kinds kind)

-- ---- rows

-- a cell under the name of its kind
abbrev pub cell_member : Kinds → ℕ × Cell → List ℕ × Data
cell_member kinds c = (kind_text kinds c.0, cell_text c.1)

-- the members of a row: its entity, and its cells by kind
abbrev pub row_members : Kinds → Row → List (List ℕ × Data)
row_members kinds row = (codes "entity", entity_json row.entity) ∷ (codes "cells", object_by (cell_member kinds) row.cells) ∷ []

-- a row
abbrev pub row_json : Kinds → Row → Data
row_json kinds row = object_of (row_members kinds row)

-- a row as an answer
abbrev pub row_answer : Kinds → Row → Data
row_answer kinds row = answer_of (codes "row") (row_members kinds row)

-- ---- worlds

-- the names of the kinds of a set, by their numbers
abbrev pub kinds_json : Kinds → KindSet → Data
kinds_json kinds mask = list_text (kind_json kinds) (kinds_in mask)

-- a kind set with rows
abbrev pub table_json : Kinds → KindSet → List Row → Data
table_json kinds mask rows = object_of ((codes "kinds", kinds_json kinds mask) ∷ (codes "rows", list_text (row_json kinds) rows) ∷ [])

-- the table of a kind set of a world
abbrev pub table_of : World → KindSet → Data
table_of w mask = table_json w.schema mask (rows_at w.tables mask)

-- the children of an entity in their order, under its text
abbrev pub children_member : Forest → Entity → List ℕ × Data
children_member forest e = (entity_text e.index e.generation, list_text entity_json (children_of forest e))

-- the cell of a resource with its shape, under its name
abbrev pub resource_member : List ℕ × Cell → List ℕ × Data
resource_member r = (r.0, resource_cell_text r.1)

-- a world as an answer: its tick, the generation of each slot, the free list, its tables, ascending by kind set, the
-- entities with children, by index, and the resources, by the bytes of their names
abbrev pub world_answer : World → Data
world_answer w = answer_of (codes "world") (
    (codes "tick", count_text w.tick) ∷ (codes "generations", list_text count_text w.slots.generations)
    ∷ (codes "free", list_text count_text w.slots.free) ∷ (codes "tables", list_text (table_of w) (kind_sets w))
    ∷ (codes "children", object_by (children_member w.children) (parents w.children))
    ∷ (codes "resources", object_by resource_member w.resources.entries) ∷ [])

-- ---- lists of cells

-- a cell by its entity and the name of its kind
abbrev pub cell_name_json : Kinds → CellName → Data
cell_name_json kinds c = object_of ((codes "entity", entity_json c.entity) ∷ (codes "kind", kind_json kinds c.kind) ∷ [])

-- the cells that were changed or added, as the word says
abbrev pub listed_answer : List ℕ → Kinds → List CellName → Data
listed_answer word kinds cells = answer_of word ((codes "cells", list_text (cell_name_json kinds) cells) ∷ [])
