-- Machines whose worlds go on from one another.
use Rattle.std.specs.Prelude.{◌≡◌, ◌≤◌, List, [], ◌∷◌, ⊤}
use Rattle.scene_model.specs.World.{World}
use Rattle.scene_machine.specs.Machine.{Machine}
use Rattle.scene_machine.specs.Frame.{Call, Submit, Advance, Undo, Redo}
use Rattle.scene_editor.specs.GoesOn.{GoesOn, HasSoundRows, StaysOnTheWay}

-- a world goes on from the first of these, that one from the second, and so on
abbrev pub GoesBack : World → List World → Type 0
GoesBack w [] = ⊤
GoesBack w (v ∷ vs) = (HasSoundRows v × GoesOn v w) × GoesBack v vs

-- the first of these goes on from a world, the second from the first, and so on
abbrev pub GoesForth : World → List World → Type 0
GoesForth w [] = ⊤
GoesForth w (v ∷ vs) = (HasSoundRows v × GoesOn w v) × GoesForth v vs

-- each world of a machine goes on from the one before it
pub record IsInOrder (m : Machine World) : Type 0 where
  pub sound : HasSoundRows m.now
  pub past : GoesBack m.now m.past
  pub future : GoesForth m.now m.future

-- a machine after another: the undos only grow, and where they didn't the world goes on
pub record ComesAfter (m n : Machine World) : Type 0 where
  pub rewinds : m.rewinds ≤ n.rewinds
  pub goes_on : m.rewinds ≡ n.rewinds → GoesOn m.now n.now

-- a frame of another kind keeps worlds on the way
abbrev pub IsPlain : Call → Type 0
IsPlain (Submit queues) = ⊤
IsPlain (Advance does) = StaysOnTheWay does
IsPlain Undo = ⊤
IsPlain Redo = ⊤

-- the same of each call
abbrev pub ArePlain : List Call → Type 0
ArePlain [] = ⊤
ArePlain (c ∷ cs) = IsPlain c × ArePlain cs
