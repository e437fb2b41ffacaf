-- The JSON values of records, by their parts (docs/SCENE_FILES.md, "Version 2"). The keys of each object stand by their
-- bytes.
use Rattle.std.specs.Prelude.{ℕ, List, [], ◌∷◌, Bool, codes, Option, Some, None}
use Rattle.serde_json.specs.Data.{Data, null, boolean, string}
use Rattle.scene_kinds.specs.declared.entity.Entity.{Entity}
use Rattle.scene_kinds.specs.declared.cell.Cell.{Cell}
use Rattle.scene_deltas.specs.declared.delta.Delta.{Delta}
use Rattle.scene_deltas.specs.declared.delta.Delta.TheVariants.{Spawned, Despawned, Shifted, CellSet, Linked, ResourceSet}
use Rattle.scene_journal.specs.Records.{Record}
use Rattle.scene_json_forms.specs.Text.{array_of, list_text, object_of, count_text, entity_json, value_text, resource_cell_text}
use Rattle.scene_file_records.specs.declared.op.Op.{Op}
use Rattle.scene_file_records.specs.declared.op.Op.TheVariants as op
use Rattle.scene_file_records.specs.Op.{op_name}

-- ---- parts of deltas

-- a value that may be missing, or null
abbrev pub maybe_text : {A : Type 0} → (A → Data) → Option A → Data
maybe_text text None = null
maybe_text text (Some a) = text a

-- a component with its kind
abbrev pub kcell_text : ℕ × Cell → Data
kcell_text c = array_of (count_text c.0 ∷ value_text c.1.value ∷ count_text c.1.added ∷ count_text c.1.changed ∷ [])

-- components with their kinds
abbrev pub kcells_text : List (ℕ × Cell) → Data
kcells_text cells = list_text kcell_text cells

-- a parent with a place in its list
abbrev pub parent_text : Entity × ℕ → Data
parent_text link = array_of (entity_json link.0 ∷ count_text link.1 ∷ [])

-- a link, or null
abbrev pub link_text : Option (Entity × ℕ) → Data
link_text link = maybe_text parent_text link

-- a resource's cell, or null
abbrev pub maybe_resource_cell_text : Option Cell → Data
maybe_resource_cell_text cell = maybe_text resource_cell_text cell

-- what a delta does
abbrev pub op_text : Op → Data
op_text o = string (op_name o)

-- ---- deltas

-- an entity that came, with its cells
abbrev pub spawned_text : Entity → List (ℕ × Cell) → Bool → Data
spawned_text e cells fresh = object_of (
    (codes "cells", kcells_text cells) ∷ (codes "entity", entity_json e) ∷ (codes "fresh", boolean fresh) ∷ (codes "op", op_text op.Spawned) ∷ [])

-- an entity that went, with all that it had
abbrev pub despawned_text : Entity → ℕ → List (ℕ × Cell) → Option (Entity × ℕ) → Bool → Data
despawned_text e place cells link retired = object_of (
    (codes "cells", kcells_text cells) ∷ (codes "entity", entity_json e) ∷ (codes "link", link_text link) ∷ (codes "op", op_text op.Despawned)
    ∷ (codes "place", count_text place) ∷ (codes "retired", boolean retired) ∷ [])

-- a row that moved by one cell
abbrev pub shifted_text : Entity → ℕ → ℕ × Cell → Bool → Data
shifted_text e place cell inward = object_of (
    (codes "cell", kcell_text cell) ∷ (codes "entity", entity_json e) ∷ (codes "inward", boolean inward) ∷ (codes "op", op_text op.Shifted)
    ∷ (codes "place", count_text place) ∷ [])

-- a cell that was exchanged, with its kind
abbrev pub cell_set_text : Entity → (before after : ℕ × Cell) → Data
cell_set_text e before after = object_of (
    (codes "after", kcell_text after) ∷ (codes "before", kcell_text before) ∷ (codes "entity", entity_json e) ∷ (codes "op", op_text op.CellSet) ∷ [])

-- a link that was exchanged
abbrev pub linked_text : Entity → (before after : Option (Entity × ℕ)) → Data
linked_text e before after = object_of (
    (codes "after", link_text after) ∷ (codes "before", link_text before) ∷ (codes "entity", entity_json e) ∷ (codes "op", op_text op.Linked) ∷ [])

-- a resource's cell that was exchanged
abbrev pub resource_set_text : List ℕ → (before after : Option Cell) → Data
resource_set_text name before after = object_of (
    (codes "after", maybe_resource_cell_text after) ∷ (codes "before", maybe_resource_cell_text before) ∷ (codes "name", string name)
    ∷ (codes "op", op_text op.ResourceSet) ∷ [])

-- a delta, with what it does
abbrev pub delta_text : Delta → Data
delta_text (Spawned e cells fresh) = spawned_text e cells fresh
delta_text (Despawned e place cells link retired) = despawned_text e place cells link retired
delta_text (Shifted e place kind cell inward) = shifted_text e place (kind, cell) inward
delta_text (CellSet e kind before after) = cell_set_text e (kind, before) (kind, after)
delta_text (Linked e before after) = linked_text e before after
delta_text (ResourceSet name before after) = resource_set_text name before after

-- ---- records

-- a record: its deltas and the tick before its frame
abbrev pub record_text : Record → Data
record_text r = object_of ((codes "deltas", list_text delta_text r.deltas) ∷ (codes "tick", count_text r.tick_before) ∷ [])

-- records, as those of the past or of the future
abbrev pub records_text : List Record → Data
records_text rs = list_text record_text rs
