-- The tables of a world by kind set: their rows, and for how many rows each has memory. And the lists of the code that
-- they are.
use Rattle.std.specs.Prelude.{◌≡◌, ◌≢◌, ℕ, zero, suc, ◌<◌, ◌≤◌, List, [], ◌∷◌, true, is_some, Option, Some, slice_get, length, vec_capacity, map as each}
use Rattle.std.specs.Option.{option_map, unwrap_or}
use Rattle.std.specs.Ordering.{nat_cmp}
use Rattle.std.specs.Cmp.{nat_cmp_total}
use Rattle.scene_kinds.specs.Map as map
use Rattle.scene_kinds.specs.KindSet.{KindSet}
use Rattle.scene_kinds.specs.declared.cells.Row.{Row}
use Rattle.scene_kinds.specs.declared.entity.Entity.{Entity}
use Rattle.scene_table.specs.Table.{TableState}
use Rattle.scene_table.specs.declared.home.Home.{Home}
use Rattle.scene_table.specs.Tables.{Tables, rows_at, with_rows}
use Rattle.scene_archetypes.specs.declared.places.Moved.{Moved}
use Rattle.scene_archetypes.specs.declared.places.Room.{Room}
use Rattle.scene_archetypes.specs.declared.places.Room.TheVariants.{Lone, Many}

-- for how many rows each kind set has memory
abbrev pub Rooms : Type 0
Rooms = map.Map nat_cmp ℕ

-- what contracts see of the tables
pub record TablesState : Type 0 where
  pub tables : Tables
  pub rooms : Rooms

-- ---- room

-- a kind set has a table, though it may have no rows
abbrev pub IsKnown : Rooms → KindSet → Type 0
IsKnown rooms mask = is_some (map.get rooms mask) ≡ true

-- for how many rows of a kind set there is memory
abbrev pub capacity_at : Rooms → KindSet → ℕ
capacity_at rooms mask = unwrap_or (map.get rooms mask) 0

-- there is memory for one more row of a kind set
abbrev pub HasRoomFor : TablesState → KindSet → Type 0
HasRoomFor t mask = length (rows_at t.tables mask) < capacity_at t.rooms mask

-- no kind set has memory for fewer rows than before
abbrev pub IsWider : Rooms → Rooms → Type 0
IsWider old new = (mask : ℕ) → capacity_at old mask ≤ capacity_at new mask

-- each kind set has memory for the rows that it has
abbrev pub HoldRows : Rooms → Tables → Type 0
HoldRows rooms tables = (mask : ℕ) → length (rows_at tables mask) ≤ capacity_at rooms mask

-- a row stands at a home
abbrev pub IsWithin : Tables → Home → Type 0
IsWithin tables home = home.place < length (rows_at tables home.mask)

-- the entity whose row stands at a place
abbrev pub entity_at : List Row → ℕ → Option Entity
entity_at rows place = option_map (λ row. row.entity) (slice_get rows place)

-- whose rows changed places besides, where a row went to a place of the rows of another table: the one that stood there
-- went last, and another may have come to the place in the old table, which now has these rows
pub record AreMoved (target : List Row) (place : ℕ) (left : List Row) (from : ℕ) (moved : Moved) : Type 0 where
  pub displaced : moved.displaced ≡ entity_at target place
  pub last : moved.last ≡ length target
  pub came : moved.came ≡ entity_at left from

-- what stands there for the cells of the row at a place, when it is taken out
abbrev pub IsRoomFor : List Row → ℕ → Room → Type 0
IsRoomFor rows place (Lone cells) = (row : Row) → slice_get rows place ≡ Some row → cells ≡ row.cells
IsRoomFor rows place (Many list) = (list.items ≡ []) × ((row : Row) → slice_get rows place ≡ Some row → length row.cells ≤ vec_capacity list)

-- ---- the lists of the code

-- the rows that tables hold; one without rows isn't seen
abbrev pub tables_of : List TableState → Tables
tables_of [] = map.empty
tables_of (t ∷ ts) = with_rows (tables_of ts) t.mask t.rows

-- and their room
abbrev pub rooms_of : List TableState → Rooms
rooms_of [] = map.empty
rooms_of (t ∷ ts) = map.insert nat_cmp_total (rooms_of ts) t.mask t.capacity

-- i is the index of the first table of a kind set
abbrev pub IsFirstOf : List TableState → KindSet → ℕ → Type 0
IsFirstOf [] mask i = ⊥
IsFirstOf (t ∷ ts) mask zero = t.mask ≡ mask
IsFirstOf (t ∷ ts) mask (suc i) = (t.mask ≢ mask) × IsFirstOf ts mask i

-- the table of a kind set stands at an index
pub record StandsAt (ts : List TableState) (mask : KindSet) (i : ℕ) : Type 0 where
  pub within : i < length ts
  pub first : IsFirstOf ts mask i

-- no table has a kind set
abbrev pub NoneHas : KindSet → List TableState → Type 0
NoneHas mask [] = Unit {0}
NoneHas mask (t ∷ ts) = (mask ≢ t.mask) × NoneHas mask ts

-- the tables' kind sets are distinct
abbrev pub AreApart : List TableState → Type 0
AreApart [] = Unit {0}
AreApart (t ∷ ts) = NoneHas t.mask ts × AreApart ts

-- the kind sets of tables
abbrev pub masks_in : List TableState → List KindSet
masks_in ts = each (λ t. t.mask) ts

-- the tables' kind sets are listed in their order, and are distinct
pub record AreListed (masks : List KindSet) (ts : List TableState) : Type 0 where
  pub listed : masks ≡ masks_in ts
  pub apart : AreApart ts

-- what always holds of them: they are listed, and each has memory for its rows
pub record AreSound (masks : List KindSet) (ts : List TableState) : Type 0 where
  pub listed : AreListed masks ts
  pub room : HoldRows (rooms_of ts) (tables_of ts)
