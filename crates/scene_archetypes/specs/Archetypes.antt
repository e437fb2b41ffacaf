-- The rows of all entities with the home of each, as contracts see them.
use Rattle.std.specs.Prelude.{◌≡◌, ℕ, ◌<◌, ◌≤◌, List, Option, Some, None, length, slice_get, slice_set}
use Rattle.scene_kinds.specs.declared.entity.Entity.{Entity}
use Rattle.scene_kinds.specs.declared.cells.Row.{Row}
use Rattle.scene_kinds.specs.KindSet.{KindSet}
use Rattle.scene_table.specs.declared.home.Home.{Home}
use Rattle.scene_table.specs.Tables.{Tables, EachRow, rows_at, row_at}
use Rattle.scene_archetypes.specs.KindTables.{Rooms, HoldRows, capacity_at}

-- what contracts see: the rows, for how many each kind set has memory, and for how many indices a home can be written
pub record ArchetypesState : Type 0 where
  pub tables : Tables
  pub rooms : Rooms
  pub homes : ℕ

-- room for one more row of a kind set, and for the homes of this many indices
pub record HasRoomOf (a : ArchetypesState) (mask : KindSet) (indices : ℕ) : Type 0 where
  pub row : length (rows_at a.tables mask) < capacity_at a.rooms mask
  pub homes : indices ≤ a.homes

-- memory for the rows that there are, and for the homes of their entities
pub record HoldsRows (rooms : Rooms) (count : ℕ) (tables : Tables) : Type 0 where
  pub rows : HoldRows rooms tables
  pub homes : EachRow (λ mask row. row.entity.index < count) tables

-- what is written of homes: each row's home stands at its entity's index, and each home that stands there is a row's
pub record AreHomes (tables : Tables) (homes : List (Option Home)) : Type 0 where
  pub kept : (h : Home) (row : Row) → row_at tables h ≡ Some row → slice_get homes row.entity.index ≡ Some (Some h)
  pub found : (i : ℕ) (h : Home) → slice_get homes i ≡ Some (Some h) → (row : Row) × ((row_at tables h ≡ Some row) × (row.entity.index ≡ i))

-- the same homes stand in a list that is no shorter
pub record SameHomes (old new : List (Option Home)) : Type 0 where
  pub stays : (i : ℕ) (h : Home) → slice_get old i ≡ Some (Some h) → slice_get new i ≡ Some (Some h)
  pub back : (i : ℕ) (h : Home) → slice_get new i ≡ Some (Some h) → slice_get old i ≡ Some (Some h)
  pub longer : length old ≤ length new

-- the homes after a row left its own, to which another may have come
abbrev pub homes_left : List (Option Home) → Entity → Home → Option Entity → List (Option Home)
homes_left homes gone home None = slice_set homes gone.index None
homes_left homes gone home (Some came) = slice_set (slice_set homes gone.index None) came.index (Some home)

-- the homes after a row came to its own, from where another may have gone to the last place
abbrev pub homes_come : List (Option Home) → Entity → Home → Option Entity → ℕ → List (Option Home)
homes_come homes e home None last = slice_set homes e.index (Some home)
homes_come homes e home (Some displaced) last = slice_set (slice_set homes displaced.index (Some (record home { place = last }))) e.index (Some home)
