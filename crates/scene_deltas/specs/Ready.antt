-- Where deltas can be taken back, or made again, one after another without memory.
use Rattle.std.specs.Prelude.{List}
use Rattle.scene_model.specs.World.{World}
use Rattle.scene_model.specs.RawLists.{MayAll, MayUndoAll}
use Rattle.scene_world.specs.Room.{Room, Holds}
use Rattle.scene_deltas.specs.declared.delta.Delta.{Delta}
use Rattle.scene_deltas.specs.Deltas.{fwd, back, FitsOn, FitsBack}

-- a delta fits back, and the room holds the world before it
pub record IsReady (room : Room) (d : Delta) (w : World) : Type 0 where
  pub fits : FitsBack d w
  pub held : Holds room (back d w)

-- each does at its turn, the last first
abbrev pub AreReady : Room → List Delta → World → Type 0
AreReady room ds w = MayUndoAll (IsReady room) back ds w

-- a delta fits, and the room holds the world after it
pub record IsReadyOn (room : Room) (d : Delta) (w : World) : Type 0 where
  pub fits : FitsOn d w
  pub held : Holds room (fwd d w)

-- each does at its turn, the first first
abbrev pub AreReadyOn : Room → List Delta → World → Type 0
AreReadyOn room ds w = MayAll (IsReadyOn room) fwd ds w
