-- Which words are cells and targets, and of what value, or why they are none.
use Rattle.std.specs.Prelude.{ℕ, ◌==◌, ℤ, List, [], ◌∷◌, Bool, true, false, not, ◌&&◌, Option, Some, None, Result, Ok, Err, is_some, if◌then◌else◌, option_map}
use Rattle.std.specs.Option.{option_map_or}
use Rattle.scene_kinds.specs.declared.shape.Shape.{Shape}
use Rattle.scene_kinds.specs.declared.shape.Shape.TheVariants as shape
use Rattle.scene_kinds.specs.declared.value.Value.{Value}
use Rattle.scene_kinds.specs.declared.value.Value.TheVariants as value
use Rattle.scene_kinds.specs.Schema.{Kinds, number_of, shape_of, fits_kind}
use Rattle.scene_kinds.specs.Shape.{shape_named}
use Rattle.scene_commands.specs.declared.target.Target.{Target}
use Rattle.scene_commands.specs.declared.target.Target.TheVariants as target
use Rattle.scene_script.specs.declared.bad_line.BadLine.{BadLine}
use Rattle.scene_script.specs.declared.bad_line.BadLine.TheVariants as bad
use Rattle.scene_kinds.specs.EntityReading.{cut_at}
use Rattle.scene_kinds.specs.EntityReading.{count_in, entity_in}
use Rattle.scene_script.specs.Numbers.{number_said, entity_said}
use Rattle.scene_script.specs.Reading.{◌>>=◌, or_bad}

-- three numbers with commas (44) between them; the commas are looked at first
abbrev pub vec3_said : List ℕ → Result (List ℤ) BadLine
vec3_said bytes = do
  p ← or_bad (bad.NoVec3 bytes) (cut_at 44 bytes)
  q ← or_bad (bad.NoVec3 bytes) (cut_at 44 p.1)
  x ← number_said p.0
  y ← number_said q.0
  z ← number_said q.1
  Ok (x ∷ y ∷ z ∷ [])

-- the value of a shape that these bytes are, behind a name; a tag has none
abbrev pub value_said : List ℕ → Shape → List ℕ → Result Value BadLine
value_said name shape.Tag bytes = Err (bad.ValueOfTag name)
value_said name shape.Int bytes = do
  z ← number_said bytes
  Ok (value.Int z)
value_said name shape.Vec3 bytes = do
  v ← vec3_said bytes
  Ok (value.Vec3 v)
value_said name shape.Text bytes = Ok (value.Text bytes)
value_said name shape.Link bytes = do
  e ← entity_said bytes
  Ok (value.Link e)

-- the kind of a name
abbrev pub kind_said : Kinds → List ℕ → Result ℕ BadLine
kind_said kinds name = or_bad (bad.UnknownKind name) (number_of kinds name)

-- a kind with nothing behind its name, where it is a tag
abbrev pub tag_said : Kinds → List ℕ → ℕ → Result (ℕ × Value) BadLine
tag_said kinds name kind = if fits_kind kinds value.Tag kind then Ok (kind, value.Tag) else Err (bad.MissingValue name)

-- a kind with the value of its shape
abbrev pub valued_said : Kinds → (name bytes : List ℕ) → ℕ → Result (ℕ × Value) BadLine
valued_said kinds name bytes kind = do
  s ← or_bad (bad.UnknownKind name) (shape_of kinds kind)
  v ← value_said name s bytes
  Ok (kind, v)

-- a name with nothing behind it
abbrev pub lone_name : Kinds → List ℕ → Result (ℕ × Value) BadLine
lone_name kinds name = do
  kind ← kind_said kinds name
  tag_said kinds name kind

-- a word without = (61), and one with what stands before and after it
abbrev pub cell_of_parts : Kinds → List ℕ → Option (List ℕ × List ℕ) → Result (ℕ × Value) BadLine
cell_of_parts kinds word None = lone_name kinds word
cell_of_parts kinds word (Some p) = do
  kind ← kind_said kinds p.0
  valued_said kinds p.0 p.1 kind

-- the kind and the value that a word names: NAME of a tag, else NAME=VALUE
abbrev pub cell_said : Kinds → List ℕ → Result (ℕ × Value) BadLine
cell_said kinds word = cell_of_parts kinds word (cut_at 61 word)

-- whether a value is a text
abbrev pub is_text : Value → Bool
is_text (value.Text bytes) = true
is_text v = false

-- the name that a word has as a cell: what stands before its = (61), or all of it
abbrev pub cell_name : List ℕ → List ℕ
cell_name word = option_map_or (λ p. p.0) (cut_at 61 word) word

-- a cell behind others; where the last one is a text, a word that names no kind was meant as a further part of it
abbrev pub next_cell : Kinds → Bool → List ℕ → Result (ℕ × Value) BadLine
next_cell kinds behind_text word =
    if behind_text && not (is_some (number_of kinds (cell_name word))) then Err (bad.BehindText word) else cell_said kinds word

-- the cells that words are, behind a text or not
abbrev pub cells_behind : Kinds → Bool → List (List ℕ) → Result (List (ℕ × Value)) BadLine
cells_behind kinds behind_text [] = Ok []
cells_behind kinds behind_text (w ∷ ws) = do
  c ← next_cell kinds behind_text w
  cs ← cells_behind kinds (is_text c.1) ws
  Ok (c ∷ cs)

-- the cells that words are
abbrev pub cells_said : Kinds → List (List ℕ) → Result (List (ℕ × Value)) BadLine
cells_said kinds words = cells_behind kinds false words

-- the shape of a name
abbrev pub shape_said : List ℕ → Result Shape BadLine
shape_said name = or_bad (bad.UnknownShape name) (shape_named name)

-- a shape with nothing behind it, where it is Tag
abbrev pub lone_shape : List ℕ → Shape → Result Value BadLine
lone_shape name shape.Tag = Ok value.Tag
lone_shape name s = Err (bad.MissingValue name)

-- a word without = (61), and one with what stands before and after it
abbrev pub shaped_of_parts : List ℕ → Option (List ℕ × List ℕ) → Result Value BadLine
shaped_of_parts word None = do
  s ← shape_said word
  lone_shape word s
shaped_of_parts word (Some p) = do
  s ← shape_said p.0
  value_said p.0 s p.1

-- the value that a word names with its shape: SHAPE of a tag, else SHAPE=VALUE
abbrev pub shaped_value_said : List ℕ → Result Value BadLine
shaped_value_said word = shaped_of_parts word (cut_at 61 word)

-- a target: + (43) and a number, or an entity
abbrev pub target_in : List ℕ → Option Target
target_in [] = None
target_in (b ∷ bs) = if b == 43 then option_map (λ k. target.New k) (count_in bs) else option_map (λ e. target.Id e) (entity_in (b ∷ bs))

-- the target that a word is, or why it is none
abbrev pub target_said : List ℕ → Result Target BadLine
target_said word = or_bad (bad.NoTarget word) (target_in word)
