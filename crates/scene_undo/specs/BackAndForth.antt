-- What an undo and a redo do one after the other, whatever the worlds of the machine are.
use Rattle.std.specs.Prelude.{◌≡◌, ◌≢◌, ◌+◌, ◌-◌, ◌<◌, ◌≤◌, List, length, take, Ok}
use Rattle.scene_machine.specs.Machine.{Machine, undo, redo}

-- the past keeps no more worlds than the depth says
abbrev pub IsWithinDepth : {W : Type 0} → Machine W → Type 0
IsWithinDepth m = length m.past ≤ m.depth

-- the machine with this past, once one undo more is counted
abbrev pub counted_with : {W : Type 0} → Machine W → List W → Machine W
counted_with m past = record m { past = past; rewinds = m.rewinds + 1 }

-- an undo and then a redo: the same past, now and future
abbrev pub UndoThenRedo : {W : Type 0} → Machine W → Type 0
UndoThenRedo {W} m = (n : Machine W) → undo m ≡ Ok (tt, n) → redo n ≡ Ok (tt, counted_with m m.past)

-- a redo and then an undo, where the undos can be counted: the same now and future, and the same past where it had not
-- yet as many worlds as the depth says; else the redo dropped its oldest
pub record RedoThenUndo {W : Type 0} (m : Machine W) : Type 0 where
  pub same : (n : Machine W) → redo m ≡ Ok (tt, n) → m.rewinds ≢ 18446744073709551615 → length m.past < m.depth
      → undo n ≡ Ok (tt, counted_with m m.past)
  pub dropped : (n : Machine W) → redo m ≡ Ok (tt, n) → m.rewinds ≢ 18446744073709551615 → 0 < m.depth
      → undo n ≡ Ok (tt, counted_with m (take (m.depth - 1) m.past))
