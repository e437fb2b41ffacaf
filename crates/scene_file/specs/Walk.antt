-- The walk through a scene text of version 1 (docs/SCENE_FILES.md, "The walk"): the parts that it says, or the first
-- fault.
use Rattle.std.specs.Prelude.{ℕ, ◌+◌, ◌^◌, List, [], ◌∷◌, codes, Bool, ◌&&◌, Result, Ok, Err, nat_eq, nat_le, nat_lt, length, if◌then◌else◌, sum_by}
use Rattle.std.specs.List.{filter_map, zip}
use Rattle.std.specs.Ordering.{is_lt}
use Rattle.serde_json.specs.Data.{Data, Members}
use Rattle.serde_json.specs.Find.{as_object}
use Rattle.scene_kinds.specs.declared.entity.Entity.{Entity}
use Rattle.scene_kinds.specs.declared.cell.Cell.{Cell}
use Rattle.scene_kinds.specs.declared.cells.Row.{Row}
use Rattle.scene_kinds.specs.declared.refusal.Refusal.{Refusal}
use Rattle.scene_kinds.specs.declared.shape.Shape.{Shape}
use Rattle.scene_kinds.specs.KindSet.{KindSet}
use Rattle.scene_kinds.specs.Schema.{Kinds, shape_of, with_kind}
use Rattle.scene_alloc.specs.Slots.{most_slots}
use Rattle.scene_resources.specs.Resources.{name_cmp}
use Rattle.scene_validate.specs.Parts.{Parts}
use Rattle.scene_json_forms.specs.declared.fault.FileFault.{FileFault}
use Rattle.scene_json_forms.specs.declared.fault.FileFault.TheVariants.{BadField, BadVersion}
use Rattle.scene_json_forms.specs.Walk.{u32_at, tick_at, entity_at, shape_at, name_at, cell_at, resource_cell_at}
use Rattle.scene_json_forms.specs.Reading.{◌>>=◌, field, if_good, below, string_at, list_at, list_of, rising_of, place_in, object_at, key_of}

-- ---- the cells of a row

-- the cells of a row, one for each of its table's kinds
abbrev pub cells_from : List Shape → List ℕ → ℕ → List Data → Result (List Cell) FileFault
cells_from [] path i [] = Ok []
cells_from (s ∷ ss) path i (d ∷ ds) = cell_at s (place_in path i) d >>= λ c. cells_from ss path (i + 1) ds >>= λ cs. Ok (c ∷ cs)
cells_from ss path i ds = Err (BadField path)

-- the list of the cells of a row, which is as long as its table has kinds
abbrev pub cells_at : List Shape → List ℕ → Data → Result (List Cell) FileFault
cells_at shapes path d = list_at path d >>= λ cells. if_good path (nat_eq (length cells) (length shapes)) cells >>= cells_from shapes path 0

-- ---- the elements of the lists

-- a kind: its name and its shape
abbrev pub kind_parts : List ℕ → List Data → Result (List ℕ × Shape) FileFault
kind_parts path (n ∷ s ∷ []) = string_at (place_in path 0) n >>= λ name. shape_at (place_in path 1) s >>= λ shape. Ok (name, shape)
kind_parts path ds = Err (BadField path)

-- the kinds with one more, whose name is good and not taken, and which isn't the 65th
abbrev pub added : List ℕ → Result (ℕ × Kinds) Refusal → Result Kinds FileFault
added path (Ok p) = Ok p.1
added path (Err r) = Err (BadField path)

-- the kinds of a list, from a place on, added to those before them
abbrev pub kinds_from : List ℕ → ℕ → Kinds → List Data → Result Kinds FileFault
kinds_from path i kinds [] = Ok kinds
kinds_from path i kinds (d ∷ ds) =
    list_at (place_in path i) d >>= kind_parts (place_in path i) >>= λ kind. added (place_in path i) (with_kind kinds kind.0 kind.1)
    >>= λ more. kinds_from path (i + 1) more ds

-- the list of the kinds
abbrev pub kinds_at : List ℕ → Data → Result Kinds FileFault
kinds_at path d = list_at path d >>= kinds_from path 0 []

-- a parent with its list
abbrev pub children_at : List ℕ → Data → Result (Entity × List Entity) FileFault
children_at path d =
    object_at (codes "list" ∷ codes "parent" ∷ []) path d
    >>= λ ms. key_of (list_of entity_at) path (codes "list") ms >>= λ list. key_of entity_at path (codes "parent") ms >>= λ parent. Ok (parent, list)

-- a resource
abbrev pub resource_at : List ℕ → Data → Result (List ℕ × Cell) FileFault
resource_at path d =
    object_at (codes "cell" ∷ codes "name" ∷ []) path d
    >>= λ ms. key_of resource_cell_at path (codes "cell") ms >>= λ cell. key_of name_at path (codes "name") ms >>= λ name. Ok (name, cell)

-- the kind set of kinds
abbrev pub set_of : List ℕ → ℕ
set_of kinds = sum_by (λ k. 2 ^ k) kinds

-- the shapes of kinds, of those that are there
abbrev pub shapes_of : Kinds → List ℕ → List Shape
shapes_of schema kinds = filter_map (shape_of schema) kinds

-- a row of kinds of these shapes
abbrev pub row_at : List ℕ → List Shape → List ℕ → Data → Result Row FileFault
row_at kinds shapes path d =
    object_at (codes "cells" ∷ codes "entity" ∷ []) path d
    >>= λ ms. key_of (cells_at shapes) path (codes "cells") ms
    >>= λ cells. key_of entity_at path (codes "entity") ms >>= λ entity. Ok (record { entity = entity; cells = zip kinds cells })

-- a table: its kinds, which rise, and its rows
abbrev pub table_at : Kinds → List ℕ → Data → Result (KindSet × List Row) FileFault
table_at schema path d =
    object_at (codes "kinds" ∷ codes "rows" ∷ []) path d
    >>= λ ms. key_of (rising_of (below (length schema)) nat_lt) path (codes "kinds") ms
    >>= λ kinds. key_of (list_of (row_at kinds (shapes_of schema kinds))) path (codes "rows") ms >>= λ rows. Ok (set_of kinds, rows)

-- ---- the whole

-- the slot limit, from 1 to the most slots that there may be
abbrev pub limit_at : List ℕ → Data → Result ℕ FileFault
limit_at path d = tick_at path d >>= λ n. if_good path (nat_le 1 n && nat_le n most_slots) n

-- the nine keys, by their bytes
abbrev pub scene_keys : List (List ℕ)
scene_keys =
    codes "children" ∷ codes "free" ∷ codes "generations" ∷ codes "kinds" ∷ codes "limit" ∷ codes "resources" ∷ codes "scene" ∷ codes "tables"
    ∷ codes "tick" ∷ []

-- parents rise by their indices
abbrev pub parent_follows : Entity × List Entity → Entity × List Entity → Bool
parent_follows a b = nat_lt a.0.index b.0.index

-- resources rise by the bytes of their names
abbrev pub name_follows : List ℕ × Cell → List ℕ × Cell → Bool
name_follows a b = is_lt (name_cmp a.0 b.0)

-- tables rise by their kind sets, as numbers
abbrev pub table_follows : KindSet × List Row → KindSet × List Row → Bool
table_follows a b = nat_lt a.0 b.0

-- what the first five keys say. Records stand behind them, of which the cells are of the kinds that are said there
pub record Head : Type 0 where
  pub children : List (Entity × List Entity)
  pub free : List ℕ
  pub generations : List ℕ
  pub schema : Kinds
  pub limit : ℕ

-- these keys in their order
abbrev pub head_of : Members → Result Head FileFault
head_of ms =
    key_of (rising_of children_at parent_follows) [] (codes "children") ms
    >>= λ children. key_of (list_of u32_at) [] (codes "free") ms
    >>= λ free. key_of (list_of u32_at) [] (codes "generations") ms
    >>= λ generations. key_of kinds_at [] (codes "kinds") ms
    >>= λ schema. key_of limit_at [] (codes "limit") ms
    >>= λ limit. Ok (record { children = children; free = free; generations = generations; schema = schema; limit = limit })

-- all parts: those of the first five keys, with what the others say
abbrev pub whole_of : Head → List (List ℕ × Cell) → List (ℕ × List Row) → ℕ → Parts
whole_of head resources tables tick = record {
  schema = head.schema;
  limit = head.limit;
  tick = tick;
  generations = head.generations;
  free = head.free;
  tables = tables;
  children = head.children;
  resources = resources;
}

-- the keys behind them, and with them all parts
abbrev pub tail_of : Head → Members → Result Parts FileFault
tail_of head ms =
    key_of (rising_of resource_at name_follows) [] (codes "resources") ms
    >>= λ resources. key_of (rising_of (table_at head.schema) table_follows) [] (codes "tables") ms
    >>= λ tables. key_of tick_at [] (codes "tick") ms
    >>= λ tick. Ok (whole_of head resources tables tick)

-- the keys of the object in their order
abbrev pub parts_of : Members → Result Parts FileFault
parts_of ms = head_of ms >>= λ head. tail_of head ms

-- the head: an object, whose version is read
abbrev pub version_of : Data → Result ℕ FileFault
version_of d = field [] (as_object d) >>= key_of tick_at [] (codes "scene")

-- the parts of a text whose version is 1
abbrev pub first_parts : Data → Result Parts FileFault
first_parts d = object_at scene_keys [] d >>= parts_of

-- the whole walk
abbrev pub parts_in : Data → Result Parts FileFault
parts_in d = version_of d >>= λ version. if nat_eq version 1 then first_parts d else Err (BadVersion version)
