-- What the arguments of C name.
use Rattle.std.specs.Prelude.{ℕ, ℤ, pos, negsuc, List, [], ◌∷◌, Option, Some, None, if◌then◌else◌, nat_eq, nat_lt}
use Rattle.std.specs.Str.{is_utf8}
use Rattle.std.specs.Option.{option_map}
use Rattle.scene_kinds.specs.declared.entity.Entity.{Entity}
use Rattle.scene_kinds.specs.declared.shape.Shape.{Shape}
use Rattle.scene_kinds.specs.declared.shape.Shape.TheVariants as shape
use Rattle.scene_kinds.specs.declared.value.Value.{Value}
use Rattle.scene_kinds.specs.declared.value.Value.TheVariants as value
use Rattle.scene_commands.specs.declared.command.Command.TheVariants.{Insert, PutResource, RemoveResource}
use Rattle.scene_commands.specs.declared.target.Target.{Target}
use Rattle.scene_commands.specs.declared.target.Target.TheVariants.{Id, New}
use Rattle.scene_script.specs.declared.script_line.Line.{Line}
use Rattle.scene_script.specs.declared.script_line.Line.TheVariants.{Do}
use Rattle.scene_c.specs.declared.reading.Reading.{Reading}
use Rattle.scene_kinds.specs.declared.refusal.Place.{Place}
use Rattle.scene_kinds.specs.declared.refusal.Refusal.{Refusal}
use Rattle.scene_kinds.specs.Fault.{fault_number}
use Rattle.scene_pass.specs.declared.cell_name.CellName.{CellName}
use Rattle.scene_undo.specs.declared.cursor.Cursor.{Cursor}
use Rattle.scene_c.specs.declared.shown.SceneMoment.{SceneMoment}
use Rattle.scene_c.specs.declared.value.SceneEntity.{SceneEntity}
use Rattle.scene_c.specs.declared.value.SceneName.{SceneName}
use Rattle.scene_c.specs.declared.value.SceneRefusal.{SceneRefusal}
use Rattle.scene_c.specs.declared.value.SceneCell.{SceneCell}

-- an entity, or that of generation 0 the one that the open queue spawned so many spawns in
abbrev pub target_of : SceneEntity → Target
target_of e = if nat_eq e.generation 0 then New e.index else Id (record { index = e.index; generation = e.generation })

-- an entity as the world knows it
abbrev pub entity_of : SceneEntity → Entity
entity_of e = record { index = e.index; generation = e.generation }

-- and as C sees it
abbrev pub shown_entity : Entity → SceneEntity
shown_entity e = record { index = e.index; generation = e.generation }

-- a cell's name as C sees it
abbrev pub shown_name : CellName → SceneName
shown_name n = record { entity = shown_entity n.entity; kind = n.kind }

-- a fault by its number, with its place, which is 0 where it has none
abbrev pub shown_at : ℕ → Option Place → SceneRefusal
shown_at fault None = record { fault = fault; has_place = 0; phase = 0; queue = 0; command = 0 }
shown_at fault (Some p) = record { fault = fault; has_place = 1; phase = p.phase; queue = p.queue; command = p.command }

-- a refusal as C sees it
abbrev pub shown_refusal : Refusal → SceneRefusal
shown_refusal r = shown_at (fault_number r.fault) r.place

-- a number of 32 bits
abbrev pub small : ℤ → Option ℕ
small (pos n) = if nat_lt n 4294967296 then Some n else None
small (negsuc n) = None

-- an entity by its two numbers
abbrev pub link_by : Option ℕ → Option ℕ → Option Value
link_by (Some index) (Some generation) = Some (value.Link (record { index = index; generation = generation }))
link_by a b = None

-- the number of a shape
abbrev pub shape_number : Shape → ℕ
shape_number shape.Tag = 0
shape_number shape.Int = 1
shape_number shape.Vec3 = 2
shape_number shape.Text = 3
shape_number shape.Link = 4

-- the value that a cell names; a text is none
abbrev pub value_of : SceneCell → Option Value
value_of c = if nat_eq c.shape 0 then Some value.Tag
    else if nat_eq c.shape 1 then Some (value.Int c.x)
    else if nat_eq c.shape 2 then Some (value.Vec3 (c.x ∷ c.y ∷ c.z ∷ []))
    else if nat_eq c.shape 4 then link_by (small c.x) (small c.y)
    else None

-- three numbers with a kind and a shape
abbrev pub cell_by : ℕ → ℕ → List ℤ → SceneCell
cell_by kind shape (x ∷ y ∷ z ∷ rest) = record { kind = kind; shape = shape; x = x; y = y; z = z }
cell_by kind shape numbers = record { kind = kind; shape = shape; x = pos 0; y = pos 0; z = pos 0 }

-- a component that is shown
abbrev pub shown_cell : ℕ → Reading → SceneCell
shown_cell kind r = cell_by kind (shape_number r.shape) r.numbers

-- a kind is a number of 8 bits
abbrev pub kind_of : ℕ → Option ℕ
kind_of n = if nat_lt n 256 then Some n else None

-- a kind with a value, where both are named
abbrev pub both_of : Option ℕ → Option Value → Option (ℕ × Value)
both_of (Some kind) (Some v) = Some (kind, v)
both_of kind v = None

-- the component that a cell names
abbrev pub component_of_cell : SceneCell → Option (ℕ × Value)
component_of_cell c = both_of (kind_of c.kind) (value_of c)

-- a text, where the bytes are one
abbrev pub text_of : List ℕ → Option (List ℕ)
text_of bytes = if is_utf8 bytes then Some bytes else None

-- a component that is a text
abbrev pub text_component : ℕ → List ℕ → Option (ℕ × Value)
text_component kind bytes = both_of (kind_of kind) (option_map value.Text (text_of bytes))

-- the line that inserts a component
abbrev pub insert_line : SceneEntity → ℕ × Value → Line
insert_line e c = Do (Insert (target_of e) c.0 c.1)

-- the line that puts a value at a name
abbrev pub put_line : Value → List ℕ → Line
put_line v name = Do (PutResource name v)

-- the line that drops a resource
abbrev pub drop_line : List ℕ → Line
drop_line name = Do (RemoveResource name)

-- a value at a name, where there are both
abbrev pub put_of : Option Value → Option (List ℕ) → Option Line
put_of (Some v) (Some name) = Some (put_line v name)
put_of v name = None

-- the moment that C names
abbrev pub cursor_of : SceneMoment → Cursor
cursor_of m = record { rewinds = m.rewinds; tick = m.tick }
