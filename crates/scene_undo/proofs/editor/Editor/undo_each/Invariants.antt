use Rattle.std.proofs.Common.{length, drop}
use Rattle.scene_undo.proofs.SeveralCalls.{AreLeftBack}
use Rattle.scene_undo.proofs.editor.Editor.undo_each.Given as goal

abbrev pub invariant-loop-copies : goal.invariant-loop-copies
invariant-loop-copies l = AreLeftBack (length l.fn.all.items) l.initial.self (drop (length l.yielded) l.fn.all.items) l.self
