-- The walk through the values of a scene text (docs/SCENE_FILES.md, "The walk"): what numbers, texts, values and cells
-- say, or the first fault.
use Rattle.std.specs.Prelude.{ℕ, ℤ, ◌+◌, ◌^◌, List, [], ◌∷◌, Result, Ok, Err, option_and_then}
use Rattle.serde_json.specs.Data.{Data}
use Rattle.serde_json.specs.Find.{as_bool, as_number, as_i64, as_str, as_u64}
use Rattle.scene_kinds.specs.declared.entity.Entity.{Entity}
use Rattle.scene_kinds.specs.declared.cell.Cell.{Cell}
use Rattle.scene_kinds.specs.declared.shape.Shape.{Shape}
use Rattle.scene_kinds.specs.declared.shape.Shape.TheVariants as shape
use Rattle.scene_kinds.specs.declared.value.Value.{Value}
use Rattle.scene_kinds.specs.declared.value.Value.TheVariants as value
use Rattle.scene_kinds.specs.Schema.{is_good_name}
use Rattle.scene_kinds.specs.Shape.{shape_named}
use Rattle.scene_kinds.specs.EntityReading.{entity_in}
use Rattle.scene_json_forms.specs.declared.fault.FileFault.{FileFault}
use Rattle.scene_json_forms.specs.declared.fault.FileFault.TheVariants.{BadField}
use Rattle.scene_json_forms.specs.Reading.{◌>>=◌, field, if_good, below, string_at, list_at, each_at, place_in}

-- ---- numbers and texts

-- a number of 32 bits without a sign
abbrev pub u32_at : List ℕ → Data → Result ℕ FileFault
u32_at path d = below (2 ^ 32) path d

-- one of 64 bits without a sign, as a tick is
abbrev pub tick_at : List ℕ → Data → Result ℕ FileFault
tick_at path d = field path (option_and_then as_u64 (as_number d))

-- one of 64 bits with a sign
abbrev pub int_at : List ℕ → Data → Result ℤ FileFault
int_at path d = field path (option_and_then as_i64 (as_number d))

-- an entity, by its text
abbrev pub entity_at : List ℕ → Data → Result Entity FileFault
entity_at path d = field path (option_and_then entity_in (as_str d))

-- a shape, by its name
abbrev pub shape_at : List ℕ → Data → Result Shape FileFault
shape_at path d = field path (option_and_then shape_named (as_str d))

-- a good name
abbrev pub name_at : List ℕ → Data → Result (List ℕ) FileFault
name_at path d = string_at path d >>= λ name. if_good path (is_good_name name) name

-- ---- values

-- three whole numbers
abbrev pub three_of : List ℕ → List Data → Result (List ℤ) FileFault
three_of path (x ∷ y ∷ z ∷ []) = each_at int_at path 0 (x ∷ y ∷ z ∷ [])
three_of path ds = Err (BadField path)

-- a value of a shape
abbrev pub value_at : Shape → List ℕ → Data → Result Value FileFault
value_at shape.Tag path d = field path (as_bool d) >>= λ b. if_good path b value.Tag
value_at shape.Int path d = int_at path d >>= λ n. Ok (value.Int n)
value_at shape.Vec3 path d = list_at path d >>= λ ds. three_of path ds >>= λ v. Ok (value.Vec3 v)
value_at shape.Text path d = string_at path d >>= λ bytes. Ok (value.Text bytes)
value_at shape.Link path d = entity_at path d >>= λ e. Ok (value.Link e)

-- ---- cells

-- a cell of a shape: its value and its two ticks, from a place of its list on
abbrev pub cell_from : Shape → List ℕ → ℕ → Data → Data → Data → Result Cell FileFault
cell_from shape path i v a c =
    value_at shape (place_in path i) v >>= λ value. tick_at (place_in path (i + 1)) a >>= λ added. tick_at (place_in path (i + 2)) c
    >>= λ changed. Ok (record { value = value; added = added; changed = changed })

-- the three parts of a component
abbrev pub cell_parts : Shape → List ℕ → List Data → Result Cell FileFault
cell_parts shape path (v ∷ a ∷ c ∷ []) = cell_from shape path 0 v a c
cell_parts shape path ds = Err (BadField path)

-- a component of a shape
abbrev pub cell_at : Shape → List ℕ → Data → Result Cell FileFault
cell_at shape path d = list_at path d >>= cell_parts shape path

-- the four parts of a resource's cell
abbrev pub resource_cell_parts : List ℕ → List Data → Result Cell FileFault
resource_cell_parts path (s ∷ v ∷ a ∷ c ∷ []) = shape_at (place_in path 0) s >>= λ shape. cell_from shape path 1 v a c
resource_cell_parts path ds = Err (BadField path)

-- a resource's cell, which says its shape
abbrev pub resource_cell_at : List ℕ → Data → Result Cell FileFault
resource_cell_at path d = list_at path d >>= resource_cell_parts path
