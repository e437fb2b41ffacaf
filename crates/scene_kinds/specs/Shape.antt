-- The names of shapes, and which values have which shape.
use Rattle.std.specs.Prelude.{ℕ, List, Bool, true, false, codes, Option, Some, None, if◌then◌else◌}
use Rattle.std.specs.Str.{bytes_eq}
use Rattle.scene_kinds.specs.declared.shape.Shape.{Shape}
use Rattle.scene_kinds.specs.declared.shape.Shape.TheVariants as shape
use Rattle.scene_kinds.specs.declared.value.Value.{Value}
use Rattle.scene_kinds.specs.declared.value.Value.TheVariants as value

-- a shape's name
abbrev pub shape_name : Shape → List ℕ
shape_name shape.Tag = codes "Tag"
shape_name shape.Int = codes "Int"
shape_name shape.Vec3 = codes "Vec3"
shape_name shape.Text = codes "Text"
shape_name shape.Link = codes "Link"

-- the shape of a name, where it is one
abbrev pub shape_named : List ℕ → Option Shape
shape_named name =
    if bytes_eq name (shape_name shape.Tag) then Some shape.Tag
    else if bytes_eq name (shape_name shape.Int) then Some shape.Int
    else if bytes_eq name (shape_name shape.Vec3) then Some shape.Vec3
    else if bytes_eq name (shape_name shape.Text) then Some shape.Text
    else if bytes_eq name (shape_name shape.Link) then Some shape.Link
    else None

-- the one shape that a value has
abbrev pub shape_of_value : Value → Shape
shape_of_value value.Tag = shape.Tag
shape_of_value (value.Int n) = shape.Int
shape_of_value (value.Vec3 v) = shape.Vec3
shape_of_value (value.Text t) = shape.Text
shape_of_value (value.Link e) = shape.Link

-- whether two shapes are one
abbrev pub same_shape : Shape → Shape → Bool
same_shape shape.Tag shape.Tag = true
same_shape shape.Int shape.Int = true
same_shape shape.Vec3 shape.Vec3 = true
same_shape shape.Text shape.Text = true
same_shape shape.Link shape.Link = true
same_shape a b = false
