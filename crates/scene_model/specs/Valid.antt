-- A valid world: the ten rules of docs/MODEL.md, "A valid world", with each number in the range of its type. They stand
-- together by what they speak of: the schema, the slots, the rows, the links and the resources.
use Rattle.std.specs.Prelude.{◌≡◌, ℕ, ◌<◌, ◌≤◌, List, Bool, true, false, ◌||◌, ◌&&◌, Some, nat_eq, nat_le, length, slice_get, slice_index}
use Rattle.std.specs.List.{list_all}
use Rattle.scene_kinds.specs.declared.entity.Entity.{Entity}
use Rattle.scene_kinds.specs.declared.cell.Cell.{Cell}
use Rattle.scene_kinds.specs.declared.cells.Row.{Row}
use Rattle.scene_kinds.specs.Cells.{HasKinds}
use Rattle.scene_kinds.specs.Map as map
use Rattle.scene_kinds.specs.Ranges.{is_in_range}
use Rattle.scene_kinds.specs.Schema.{Kinds, IsSchema, fits_kind, is_good_name}
use Rattle.scene_kinds.specs.KindSet.{KindSet}
use Rattle.scene_alloc.specs.Slots.{SlotState, IsSlots, is_free, highest}
use Rattle.scene_links.specs.Forest.{Forest, IsForest, IsLink}
use Rattle.scene_resources.specs.Resources.{NamedCells}
use Rattle.scene_model.specs.World.{World}
use Rattle.scene_table.specs.Tables.{Tables, lives, EachRow, StandsOnce}

-- an entity has its slot's generation
abbrev pub IsCurrent : SlotState → Entity → Type 0
IsCurrent slots e = slice_get slots.generations e.index ≡ Some e.generation

-- a row has just its kind set's kinds, ascending, all in the schema, each cell with a value of its kind's shape
pub record IsRowOf (schema : Kinds) (mask : KindSet) (row : Row) : Type 0 where
  pub kinds : HasKinds mask row
  pub shapes : list_all (λ c. fits_kind schema c.1.value c.0) row.cells ≡ true

-- a cell was added no later than it was changed, and changed no later than now
abbrev pub is_timely : ℕ → Cell → Bool
is_timely tick c = nat_le c.added c.changed && nat_le c.changed tick

-- rules 3, 5, 7 and 10 of a row: its entity has its slot's generation and an index that isn't free, its cells fit its
-- table and the schema, and their ticks are in order
pub record IsSoundRow (schema : Kinds) (slots : SlotState) (tick : ℕ) (mask : KindSet) (row : Row) : Type 0 where
  pub current : IsCurrent slots row.entity
  pub busy : is_free slots row.entity.index ≡ false
  pub fits : IsRowOf schema mask row
  pub timely : list_all (λ c. is_timely tick c.1) row.cells ≡ true

-- each row is sound, and rule 4: no entity has two (that kind sets are distinct and none stands without rows is the
-- map's own)
pub record RowsAreSound (schema : Kinds) (slots : SlotState) (tick : ℕ) (tables : Tables) : Type 0 where
  pub each : EachRow (IsSoundRow schema slots tick) tables
  pub once : StandsOnce tables

-- whether the entity that an index has now is alive
abbrev pub is_live_index : SlotState → Tables → ℕ → Bool
is_live_index slots tables i = lives tables (record { index = i; generation = slice_index slots.generations i })

-- whether an index was retired: it has the highest generation
abbrev pub is_retired : SlotState → ℕ → Bool
is_retired slots i = nat_eq (slice_index slots.generations i) highest

-- rule 6: each index is live, free or retired
abbrev pub IndicesAreAccounted : SlotState → Tables → Type 0
IndicesAreAccounted slots tables = (i : ℕ) → i < length slots.generations
    → (is_live_index slots tables i || is_free slots i || is_retired slots i) ≡ true

-- rule 8: parents and children are live, each child stands once, and nobody is its own ancestor
pub record LinksAreSound (tables : Tables) (children : Forest) : Type 0 where
  pub live : (p c : Entity) → IsLink children p c → (lives tables p ≡ true) × (lives tables c ≡ true)
  pub forest : IsForest children

-- rules 9 and 10 of a resource: a good name, a value that its type can hold, and ticks in order
pub record IsResource (tick : ℕ) (name : List ℕ) (cell : Cell) : Type 0 where
  pub good : is_good_name name ≡ true
  pub in_range : is_in_range cell.value ≡ true
  pub timely : is_timely tick cell ≡ true

-- each resource is sound (that their names are distinct is the map's own)
abbrev pub ResourcesAreSound : ℕ → NamedCells → Type 0
ResourcesAreSound tick resources = (name : List ℕ) (cell : Cell) → map.get resources name ≡ Some cell → IsResource tick name cell

-- a valid world, by the ten rules of docs/MODEL.md
pub record IsValid (w : World) : Type 0 where
  pub schema : IsSchema w.schema
  -- rules 1, 2 and 5
  pub slots : IsSlots w.slots
  pub tick : w.tick ≤ 18446744073709551615
  pub rows : RowsAreSound w.schema w.slots w.tick w.tables
  pub accounted : IndicesAreAccounted w.slots w.tables
  pub links : LinksAreSound w.tables w.children
  pub resources : ResourcesAreSound w.tick w.resources
