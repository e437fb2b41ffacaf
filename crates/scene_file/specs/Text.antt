-- The JSON value of a world, by its parts (docs/SCENE_FILES.md, "Version 1"). The keys of each object stand by their
-- bytes.
use Rattle.std.specs.Prelude.{ℕ, List, [], ◌∷◌, ◌++◌, codes, filter}
use Rattle.std.specs.List.{range_with_len}
use Rattle.serde_json.specs.Data.{Data, string}
use Rattle.serde_json.specs.Written.{compact_text}
use Rattle.scene_kinds.specs.declared.entity.Entity.{Entity}
use Rattle.scene_kinds.specs.declared.cell.Cell.{Cell}
use Rattle.scene_kinds.specs.declared.cells.Row.{Row}
use Rattle.scene_kinds.specs.declared.shape.Shape.{Shape}
use Rattle.scene_kinds.specs.KindSet.{KindSet, has_kind}
use Rattle.scene_model.specs.World.{World}
use Rattle.scene_validate.specs.Parts.{Parts, parts_of}
use Rattle.scene_json_forms.specs.Text.{array_of, list_text, object_of, count_text, entity_json, shape_text, cell_text, resource_cell_text}

-- ---- the parts of a row

-- a row: its cells by their kinds, and its entity
abbrev pub row_text : Row → Data
row_text r = object_of ((codes "cells", list_text (λ c. cell_text c.1) r.cells) ∷ (codes "entity", entity_json r.entity) ∷ [])

-- the kinds of a set, ascending
abbrev pub kinds_of : KindSet → List ℕ
kinds_of mask = filter (has_kind mask) (range_with_len 0 64)

-- ---- the elements of the lists of a world

-- a kind: its name and its shape
abbrev pub kind_text : List ℕ × Shape → Data
kind_text kind = array_of (string kind.0 ∷ shape_text kind.1 ∷ [])

-- a table: its kinds and its rows
abbrev pub table_text : KindSet × List Row → Data
table_text t = object_of ((codes "kinds", list_text count_text (kinds_of t.0)) ∷ (codes "rows", list_text row_text t.1) ∷ [])

-- a parent with its list of children
abbrev pub children_text : Entity × List Entity → Data
children_text l = object_of ((codes "list", list_text entity_json l.1) ∷ (codes "parent", entity_json l.0) ∷ [])

-- a resource: its cell and its name
abbrev pub resource_text : List ℕ × Cell → Data
resource_text r = object_of ((codes "cell", resource_cell_text r.1) ∷ (codes "name", string r.0) ∷ [])

-- ---- the whole

-- the members of parts up to the limit, behind which version 2 has the records of the future
abbrev pub first_text : Parts → List (List ℕ × Data)
first_text p =
    (codes "children", list_text children_text p.children) ∷ (codes "free", list_text count_text p.free)
    ∷ (codes "generations", list_text count_text p.generations) ∷ (codes "kinds", list_text kind_text p.schema)
    ∷ (codes "limit", count_text p.limit) ∷ []

-- the members from the resources on, with a version
abbrev pub last_text : ℕ → Parts → List (List ℕ × Data)
last_text version p =
    (codes "resources", list_text resource_text p.resources) ∷ (codes "scene", count_text version)
    ∷ (codes "tables", list_text table_text p.tables) ∷ (codes "tick", count_text p.tick) ∷ []

-- the value of parts
abbrev pub parts_text : Parts → Data
parts_text p = object_of (first_text p ++ last_text 1 p)

-- the value of a world
abbrev pub world_text : World → Data
world_text w = parts_text (parts_of w)

-- what a save writes: the compact text of the value, and one newline
abbrev pub saved : World → List ℕ
saved w = compact_text (world_text w) ++ 10 ∷ []
