-- A recorder: a world, and the record of what was done to it.
use Rattle.std.specs.Prelude.{ℕ}
use Rattle.scene_model.specs.World.{World}
use Rattle.scene_world.specs.Room.{Room, Housed}
use Rattle.scene_world.specs.Stage.{Opening, Staged}
use Rattle.scene_deltas.specs.declared.delta.Delta.{Delta}
use Rattle.scene_journal.specs.Records.{Record}
use Rattle.scene_deltas.specs.Deltas.{back_all}

-- the world as it is now, the record of its frame so far, and the room of the world
pub record Recording : Type 0 where
  pub world : World
  pub frame : Record
  pub room : Room

-- a housed world with the record of its frame so far
abbrev pub recording : Housed → Record → Recording
recording h frame = record { world = h.world; frame = frame; room = h.room }

-- as a stage it is the world with the deltas
abbrev pub staged_of : Recording → Staged Delta
staged_of r = record { world = r.world; notes = r.frame.deltas }

-- the world to which it can be taken back: the one before the deltas
abbrev pub opening_of : Recording → World
opening_of r = back_all r.frame.deltas r.world

-- a beginning by its parts
abbrev pub began_with : ℕ → World → Opening
began_with tick w = record { world = w; tick = tick }

-- where it began: that world, and the tick of its record
abbrev pub began : Recording → Opening
began r = began_with r.frame.tick_before (opening_of r)
