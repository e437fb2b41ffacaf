use Rattle.std.proofs.Common.{◌≡◌, length}
use Rattle.scene_undo.specs.Copies.{AreOfEach}
use Rattle.scene_undo.specs.Direction.{in_turn}
use Rattle.scene_undo.proofs.several.copies_of.Given as goal

abbrev pub invariant-loop-number : goal.invariant-loop-number
invariant-loop-number l = AreOfEach l.direction l.all.items (in_turn l.direction l.frames) × (length l.all.items ≡ l.number)
