-- Which records can be undone and redone without memory, but for a copy of their deltas.
use Rattle.std.specs.Prelude.{List}
use Rattle.scene_model.specs.World.{World}
use Rattle.scene_model.specs.RawLists.{MayAll}
use Rattle.scene_world.specs.Room.{Room}
use Rattle.scene_deltas.specs.Ready.{AreReady, AreReadyOn}
use Rattle.scene_journal.specs.Records.{Record, raised, redone, undone, RecordFitsOn, RecordFitsBack}

-- a record fits back, and the room holds each world on the way
pub record CanUndo (room : Room) (r : Record) (w : World) : Type 0 where
  pub fits : RecordFitsBack r w
  pub ready : AreReady room r.deltas w

-- a record can be undone in each room in which its deltas are ready
abbrev pub CanUndoWhereReady : Record → World → Type 0
CanUndoWhereReady r w = (room : Room) → AreReady room r.deltas w → CanUndo room r w

-- a record fits, and the room holds each world on the way
pub record CanRedo (room : Room) (r : Record) (w : World) : Type 0 where
  pub fits : RecordFitsOn r w
  pub ready : AreReadyOn room r.deltas (raised w)

-- all records of a past can be undone, the newest first
abbrev pub CanUndoAll : Room → List Record → World → Type 0
CanUndoAll room rs w = MayAll (CanUndo room) undone rs w

-- all records of a future can be redone, the next one first
abbrev pub CanRedoAll : Room → List Record → World → Type 0
CanRedoAll room rs w = MayAll (CanRedo room) redone rs w
