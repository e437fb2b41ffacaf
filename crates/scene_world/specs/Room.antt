-- The room of a world: for what its storage suffices with no more memory. It is never lost, so a world that was there
-- can come back without memory.
use Rattle.std.specs.Prelude.{ℕ, ◌≤◌, List, length}
use Rattle.scene_alloc.specs.Slots.{StoredSlots}
use Rattle.scene_links.specs.Room.{LinksState, Holds as HoldsLinks, IsWider as IsWiderForLinks}
use Rattle.scene_resources.specs.Resources.{StoredResources, Holds as HoldsNames, IsWider as IsWiderForNames}
use Rattle.scene_archetypes.specs.KindTables.{Rooms, IsWider as IsWiderForRows}
use Rattle.scene_archetypes.specs.Archetypes.{ArchetypesState, HoldsRows}
use Rattle.scene_model.specs.World.{World}

-- memory for so many slots, for so many rows of each kind set, for the homes of so many indices, for so many children
-- of each index, and for a cell of each of these names
pub record Room : Type 0 where
  pub slots : ℕ
  pub rows : Rooms
  pub homes : ℕ
  pub lists : List ℕ
  pub names : List (List ℕ)

-- what contracts see of a `World`: the world, and its room
pub record Housed : Type 0 where
  pub world : World
  pub room : Room

-- the room of the parts of the code
abbrev pub room_of : StoredSlots → ArchetypesState → LinksState → StoredResources → Room
room_of slots tables links resources =
    record { slots = slots.capacity; rows = tables.rooms; homes = tables.homes; lists = links.room; names = resources.kept }

-- a world needs no more memory than this room
pub record Holds (room : Room) (w : World) : Type 0 where
  pub slots : length w.slots.generations ≤ room.slots
  pub rows : HoldsRows room.rows room.homes w.tables
  pub links : HoldsLinks room.lists w.children
  pub names : HoldsNames room.names w.resources

-- no room was lost
pub record IsWider (old new : Room) : Type 0 where
  pub slots : old.slots ≤ new.slots
  pub rows : IsWiderForRows old.rows new.rows
  pub homes : old.homes ≤ new.homes
  pub links : IsWiderForLinks old.lists new.lists
  pub names : IsWiderForNames old.names new.names

-- ---- the parts of what contracts see, as those of the parts see them

-- the slots with their room
abbrev pub stored_slots : Housed → StoredSlots
stored_slots h = record { state = h.world.slots; capacity = h.room.slots }

-- the tables and homes with their room
abbrev pub stored_rows : Housed → ArchetypesState
stored_rows h = record { tables = h.world.tables; rooms = h.room.rows; homes = h.room.homes }
