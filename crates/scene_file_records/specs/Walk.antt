-- The walk through the records of a scene text of version 2 (docs/SCENE_FILES.md, "The walk"): what they say, or the
-- first fault.
use Rattle.std.specs.Prelude.{ℕ, List, [], ◌∷◌, codes, Bool, Option, Some, None, is_some, Result, Ok, Err, option_and_then, nat_eq, nat_lt, length, if◌then◌else◌}
use Rattle.serde_json.specs.Data.{Data, Members}
use Rattle.serde_json.specs.Find.{as_bool, as_null, as_object, as_str}
use Rattle.scene_kinds.specs.declared.entity.Entity.{Entity}
use Rattle.scene_kinds.specs.declared.cell.Cell.{Cell}
use Rattle.scene_kinds.specs.declared.shape.Shape.{Shape}
use Rattle.scene_kinds.specs.Schema.{Kinds, shape_of}
use Rattle.scene_deltas.specs.declared.delta.Delta.{Delta}
use Rattle.scene_deltas.specs.declared.delta.Delta.TheVariants.{Spawned, Despawned, Shifted, CellSet, Linked, ResourceSet}
use Rattle.scene_journal.specs.Records.{Record, record_of}
use Rattle.scene_json_forms.specs.declared.fault.FileFault.{FileFault}
use Rattle.scene_json_forms.specs.declared.fault.FileFault.TheVariants.{BadField}
use Rattle.scene_json_forms.specs.Reading.{◌>>=◌, field, if_good, below, list_at, list_of, rising_of, place_in, under, object_at, key_of}
use Rattle.scene_json_forms.specs.Walk.{u32_at, tick_at, entity_at, name_at, cell_from, resource_cell_at}
use Rattle.scene_file_records.specs.declared.op.Op.{Op}
use Rattle.scene_file_records.specs.declared.op.Op.TheVariants as op
use Rattle.scene_file_records.specs.Op.{op_named, op_keys}

-- ---- parts of deltas

-- true or false
abbrev pub flag_at : List ℕ → Data → Result Bool FileFault
flag_at path d = field path (as_bool d)

-- null, or a value of a form
abbrev pub maybe_of : {A : Type 0} → (List ℕ → Data → Result A FileFault) → List ℕ → Data → Result (Option A) FileFault
maybe_of read path d = if is_some (as_null d) then Ok None else read path d >>= λ a. Ok (Some a)

-- the number of a kind that is there, with its shape
abbrev pub kind_at : Kinds → List ℕ → Data → Result (ℕ × Shape) FileFault
kind_at schema path d = below (length schema) path d >>= λ kind. field path (shape_of schema kind) >>= λ shape. Ok (kind, shape)

-- the four parts of a component with its kind
abbrev pub kcell_parts : Kinds → List ℕ → List Data → Result (ℕ × Cell) FileFault
kcell_parts schema path (k ∷ v ∷ a ∷ c ∷ []) =
    kind_at schema (place_in path 0) k >>= λ kind. cell_from kind.1 path 1 v a c >>= λ cell. Ok (kind.0, cell)
kcell_parts schema path ds = Err (BadField path)

-- a component with its kind
abbrev pub kcell_at : Kinds → List ℕ → Data → Result (ℕ × Cell) FileFault
kcell_at schema path d = list_at path d >>= kcell_parts schema path

-- components rise by their kinds
abbrev pub kind_follows : ℕ × Cell → ℕ × Cell → Bool
kind_follows a b = nat_lt a.0 b.0

-- components of which each kind is above the one before
abbrev pub kcells_at : Kinds → List ℕ → Data → Result (List (ℕ × Cell)) FileFault
kcells_at schema path d = rising_of (kcell_at schema) kind_follows path d

-- the two parts of a link
abbrev pub parent_parts : List ℕ → List Data → Result (Entity × ℕ) FileFault
parent_parts path (p ∷ i ∷ []) = entity_at (place_in path 0) p >>= λ parent. u32_at (place_in path 1) i >>= λ place. Ok (parent, place)
parent_parts path ds = Err (BadField path)

-- a parent with a place in its list
abbrev pub parent_at : List ℕ → Data → Result (Entity × ℕ) FileFault
parent_at path d = list_at path d >>= parent_parts path

-- a link, or null
abbrev pub link_at : List ℕ → Data → Result (Option (Entity × ℕ)) FileFault
link_at path d = maybe_of parent_at path d

-- a resource's cell, or null
abbrev pub maybe_resource_cell_at : List ℕ → Data → Result (Option Cell) FileFault
maybe_resource_cell_at path d = maybe_of resource_cell_at path d

-- ---- deltas, of which the keys are known

-- an entity that came
abbrev pub spawned_of : Kinds → List ℕ → Members → Result Delta FileFault
spawned_of schema path ms =
    key_of (kcells_at schema) path (codes "cells") ms
    >>= λ cells. key_of entity_at path (codes "entity") ms >>= λ entity. key_of flag_at path (codes "fresh") ms
    >>= λ fresh. Ok (Spawned entity cells fresh)

-- an entity that went
abbrev pub despawned_of : Kinds → List ℕ → Members → Result Delta FileFault
despawned_of schema path ms =
    key_of (kcells_at schema) path (codes "cells") ms
    >>= λ cells. key_of entity_at path (codes "entity") ms
    >>= λ entity. key_of link_at path (codes "link") ms
    >>= λ link. key_of u32_at path (codes "place") ms
    >>= λ place. key_of flag_at path (codes "retired") ms >>= λ retired. Ok (Despawned entity place cells link retired)

-- a row that moved by one cell
abbrev pub shifted_of : Kinds → List ℕ → Members → Result Delta FileFault
shifted_of schema path ms =
    key_of (kcell_at schema) path (codes "cell") ms
    >>= λ cell. key_of entity_at path (codes "entity") ms
    >>= λ entity. key_of flag_at path (codes "inward") ms
    >>= λ inward. key_of u32_at path (codes "place") ms >>= λ place. Ok (Shifted entity place cell.0 cell.1 inward)

-- both cells are of one kind
abbrev pub cell_set_of : Kinds → List ℕ → Members → Result Delta FileFault
cell_set_of schema path ms =
    key_of (kcell_at schema) path (codes "after") ms
    >>= λ after. key_of (kcell_at schema) path (codes "before") ms
    >>= λ before. key_of entity_at path (codes "entity") ms
    >>= λ entity. if_good (under path (codes "after")) (nat_eq after.0 before.0) (CellSet entity after.0 before.1 after.1)

-- a link that was exchanged
abbrev pub linked_of : List ℕ → Members → Result Delta FileFault
linked_of path ms =
    key_of link_at path (codes "after") ms
    >>= λ after. key_of link_at path (codes "before") ms >>= λ before. key_of entity_at path (codes "entity") ms
    >>= λ entity. Ok (Linked entity before after)

-- a resource's cell that was exchanged
abbrev pub resource_set_of : List ℕ → Members → Result Delta FileFault
resource_set_of path ms =
    key_of maybe_resource_cell_at path (codes "after") ms
    >>= λ after. key_of maybe_resource_cell_at path (codes "before") ms
    >>= λ before. key_of name_at path (codes "name") ms >>= λ name. Ok (ResourceSet name before after)

-- a delta, by what it does
abbrev pub delta_of : Kinds → Op → List ℕ → Members → Result Delta FileFault
delta_of schema op.Spawned path ms = spawned_of schema path ms
delta_of schema op.Despawned path ms = despawned_of schema path ms
delta_of schema op.Shifted path ms = shifted_of schema path ms
delta_of schema op.CellSet path ms = cell_set_of schema path ms
delta_of schema op.Linked path ms = linked_of path ms
delta_of schema op.ResourceSet path ms = resource_set_of path ms

-- ---- deltas

-- what deltas of a name do
abbrev pub op_at : List ℕ → Data → Result Op FileFault
op_at path d = field path (option_and_then op_named (as_str d))

-- what a delta does, which is an object
abbrev pub op_of : List ℕ → Data → Result Op FileFault
op_of path d = field path (as_object d) >>= key_of op_at path (codes "op")

-- a delta: `op` comes first, then its unknown keys, and then its keys
abbrev pub delta_at : Kinds → List ℕ → Data → Result Delta FileFault
delta_at schema path d = op_of path d >>= λ op. object_at (op_keys op) path d >>= delta_of schema op path

-- ---- records

-- a record: its deltas and the tick before its frame
abbrev pub record_at : Kinds → List ℕ → Data → Result Record FileFault
record_at schema path d =
    object_at (codes "deltas" ∷ codes "tick" ∷ []) path d
    >>= λ ms. key_of (list_of (delta_at schema)) path (codes "deltas") ms >>= λ deltas. key_of tick_at path (codes "tick") ms
    >>= λ tick. Ok (record_of tick deltas)

-- records, as those of the past or of the future
abbrev pub records_at : Kinds → List ℕ → Data → Result (List Record) FileFault
records_at schema path d = list_of (record_at schema) path d
