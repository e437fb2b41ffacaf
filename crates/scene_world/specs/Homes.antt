-- The homes of a world by index.
use Rattle.std.specs.Prelude.{ℕ, Option, slice_index}
use Rattle.scene_table.specs.declared.home.Home.{Home}
use Rattle.scene_model.specs.World.{World, home_of}
use Rattle.scene_kinds.specs.KindSet.{KindSet}

-- a place of the table of a kind set
abbrev pub home_at : KindSet → ℕ → Home
home_at mask place = record { mask = mask; place = place }

-- where the row of the live entity of an index stands: it is the one that has its slot's generation
abbrev pub home_of_index : World → ℕ → Option Home
home_of_index w index = home_of w (record { index = index; generation = slice_index w.slots.generations index })
