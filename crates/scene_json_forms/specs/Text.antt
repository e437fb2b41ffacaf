-- The JSON values of numbers, texts, values and cells (docs/SCENE_FILES.md, "Version 1"), and of lists and objects that
-- are made of others.
use Rattle.std.specs.Prelude.{ℕ, ℤ, List, [], ◌∷◌, true, map as each}
use Rattle.serde_json.specs.Data.{Data, boolean, number, string, array, object, unsigned, Items, no_items, item, Members, no_members, member}
use Rattle.serde_json.specs.Find.{of_integer}
use Rattle.scene_kinds.specs.declared.entity.Entity.{Entity}
use Rattle.scene_kinds.specs.declared.cell.Cell.{Cell}
use Rattle.scene_kinds.specs.declared.shape.Shape.{Shape}
use Rattle.scene_kinds.specs.declared.value.Value.{Value}
use Rattle.scene_kinds.specs.declared.value.Value.TheVariants as value
use Rattle.scene_kinds.specs.Entity.{entity_text}
use Rattle.scene_kinds.specs.Shape.{shape_name, shape_of_value}

-- ---- lists and objects

-- values as the elements of a list
abbrev pub items_of : List Data → Items
items_of [] = no_items
items_of (d ∷ ds) = item d (items_of ds)

-- the list of these values
abbrev pub array_of : List Data → Data
array_of ds = array (items_of ds)

-- the elements of a list, each as a value
abbrev pub list_text : {A : Type 0} → (A → Data) → List A → Data
list_text text xs = array_of (each text xs)

-- keys with their values, as the members of an object
abbrev pub members_of : List (List ℕ × Data) → Members
members_of [] = no_members
members_of (m ∷ ms) = member m.0 m.1 (members_of ms)

-- the object of these keys and values
abbrev pub object_of : List (List ℕ × Data) → Data
object_of ms = object (members_of ms)

-- ---- numbers, entities and values

-- a number without a sign, as a place or a tick is
abbrev pub count_text : ℕ → Data
count_text n = number (unsigned n)

-- a whole number, which may be negative
abbrev pub int_text : ℤ → Data
int_text n = number (of_integer n)

-- an entity, as a string of its text
abbrev pub entity_json : Entity → Data
entity_json e = string (entity_text e.index e.generation)

-- the value of a cell, by its shape
abbrev pub value_text : Value → Data
value_text value.Tag = boolean true
value_text (value.Int n) = int_text n
value_text (value.Vec3 parts) = list_text int_text parts
value_text (value.Text bytes) = string bytes
value_text (value.Link e) = entity_json e

-- a shape, as a string of its name
abbrev pub shape_text : Shape → Data
shape_text shape = string (shape_name shape)

-- ---- cells

-- a component, of which the kind is known
abbrev pub cell_text : Cell → Data
cell_text c = array_of (value_text c.value ∷ count_text c.added ∷ count_text c.changed ∷ [])

-- a resource's cell, with its shape
abbrev pub resource_cell_text : Cell → Data
resource_cell_text c = array_of (shape_text (shape_of_value c.value) ∷ value_text c.value ∷ count_text c.added ∷ count_text c.changed ∷ [])
