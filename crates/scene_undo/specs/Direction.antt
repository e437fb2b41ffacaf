-- Undoing and redoing records, told at once.
use Rattle.std.specs.Prelude.{ℕ, List, reverse}
use Rattle.scene_model.specs.World.{World}
use Rattle.scene_model.specs.RawLists.{MayAll, after_all}
use Rattle.scene_world.specs.Room.{Room}
use Rattle.scene_journal.specs.Faults.{IsFaultBack, IsFaultOn}
use Rattle.scene_journal.specs.Records.{Record, redone, undone, RecordFitsBack, RecordFitsOn}
use Rattle.scene_undo.specs.declared.direction.Direction.{Direction}
use Rattle.scene_undo.specs.declared.direction.Direction.TheVariants.{Undo, Redo}
use Rattle.scene_undo.specs.Kept.{CanRedo, CanUndo}

-- the other direction
abbrev pub opposite : Direction → Direction
opposite Undo = Redo
opposite Redo = Undo

-- the world that a record leads to
abbrev pub step : Direction → Record → World → World
step Undo = undone
step Redo = redone

-- where it fits
abbrev pub Fits : Direction → Record → World → Type 0
Fits Undo = RecordFitsBack
Fits Redo = RecordFitsOn

-- where it fits, and the room holds each world on the way
abbrev pub Can : Direction → Room → Record → World → Type 0
Can Undo = CanUndo
Can Redo = CanRedo

-- its first fault where it doesn't fit, by the number of a delta
abbrev pub IsFault : Direction → Record → World → ℕ → Type 0
IsFault Undo = IsFaultBack
IsFault Redo = IsFaultOn

-- ---- records, in the order in which they go

-- the records of a list that begins with the oldest
abbrev pub in_turn : Direction → List Record → List Record
in_turn Undo rs = reverse rs
in_turn Redo rs = rs

-- the world after all of them
abbrev pub after : Direction → List Record → World → World
after way rs w = after_all (step way) rs w

-- each fits at its turn
abbrev pub AllFit : Direction → List Record → World → Type 0
AllFit way rs w = MayAll (Fits way) (step way) rs w

-- each can go at its turn
abbrev pub CanAll : Direction → Room → List Record → World → Type 0
CanAll way room rs w = MayAll (Can way room) (step way) rs w
