-- What C sees of a scene that it reads.
use Rattle.std.specs.Prelude.{ℕ, ℤ, List, ◌∷◌, Option, Some, None, Bool, if◌then◌else◌, length, pos}
use Rattle.scene_kinds.specs.declared.entity.Entity.{Entity}
use Rattle.scene_kinds.specs.declared.value.Value.{Value}
use Rattle.scene_kinds.specs.declared.value.Value.TheVariants.{Int, Vec3, Text, Link}
use Rattle.scene_table.specs.Table.{TableState}
use Rattle.scene_session.specs.Whole.{Whole}
use Rattle.scene_undo.specs.declared.cursor.Cursor.{Cursor}
use Rattle.scene_c.specs.Arguments.{shown_entity}
use Rattle.scene_c.specs.declared.shown.SceneInfo.{SceneInfo}
use Rattle.scene_c.specs.declared.shown.SceneMoment.{SceneMoment}
use Rattle.scene_c.specs.declared.shown.SceneTable.{SceneTable}
use Rattle.scene_c.specs.declared.shown.SceneVec3.{SceneVec3}
use Rattle.scene_c.specs.declared.value.SceneEntity.{SceneEntity}

-- what no entity is
abbrev pub no_entity : SceneEntity
no_entity = record { index = 4294967295; generation = 4294967295 }

-- an entity, or that there is none
abbrev pub entity_or_none : Option Entity → SceneEntity
entity_or_none (Some e) = shown_entity e
entity_or_none None = no_entity

-- true and false
abbrev pub shown_truth : Bool → ℕ
shown_truth b = if b then 1 else 0

-- the number that a value is, and 0 of another
abbrev pub int_of : Value → ℤ
int_of (Int n) = n
int_of v = pos 0

-- a vector by its three numbers
abbrev pub vec3_by : List ℤ → SceneVec3
vec3_by (x ∷ y ∷ z ∷ rest) = record { x = x; y = y; z = z }
vec3_by numbers = record { x = pos 0; y = pos 0; z = pos 0 }

-- the vector that a value is, and zeros of another
abbrev pub vec3_of : Value → SceneVec3
vec3_of (Vec3 v) = vec3_by v
vec3_of v = record { x = pos 0; y = pos 0; z = pos 0 }

-- the entity that a value leads to, and of another none
abbrev pub link_of : Value → SceneEntity
link_of (Link e) = shown_entity e
link_of v = no_entity

-- the text that a value is
abbrev pub text_value : Value → Option (List ℕ)
text_value (Text t) = Some t
text_value v = None

-- a table by its kind set and its rows
abbrev pub table_of : TableState → SceneTable
table_of t = record { mask = t.mask; rows = length t.rows }

-- a machine with its records by its numbers, where a frame is open or not
abbrev pub shown_info : Whole → Bool → SceneInfo
shown_info w in_frame = record {
  tick = w.machine.now.tick;
  rewinds = w.machine.rewinds;
  undo = length w.past;
  redo = length w.future;
  slots = length w.machine.now.slots.generations;
  limit = w.machine.now.slots.limit;
  kinds = length w.machine.now.schema;
  depth = w.machine.depth;
  in_frame = shown_truth in_frame;
}

-- a moment as C sees it
abbrev pub shown_moment : Cursor → SceneMoment
shown_moment c = record { rewinds = c.rewinds; tick = c.tick }
