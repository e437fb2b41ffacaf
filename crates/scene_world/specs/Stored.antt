-- How the parts of the code are seen as a world.
use Rattle.std.specs.Prelude.{ℕ, ◌≤◌, length}
use Rattle.scene_kinds.specs.Schema.{Kinds}
use Rattle.scene_alloc.specs.Slots.{StoredSlots}
use Rattle.scene_links.specs.Forest.{Forest}
use Rattle.scene_resources.specs.Resources.{StoredResources}
use Rattle.scene_model.specs.World.{World}
use Rattle.scene_model.specs.Valid.{IsValid}
use Rattle.scene_table.specs.Tables.{Tables}

-- the parts of the code as a world: room isn't seen
abbrev pub world_of : Kinds → StoredSlots → ℕ → Tables → Forest → StoredResources → World
world_of schema slots tick tables children resources =
    record { schema = schema; slots = slots.state; tick = tick; tables = tables; children = children; resources = resources.cells }

-- what always holds of the parts: they are a valid world, and so many homes are enough for its slots
pub record AreSound (w : World) (count : ℕ) : Type 0 where
  pub valid : IsValid w
  pub homes : length w.slots.generations ≤ count
