use Rattle.std.proofs.Common.{length, drop}
use Rattle.scene_undo.proofs.SeveralCalls.{AreLeftOn}
use Rattle.scene_undo.proofs.editor.Editor.redo_each.Given as goal

abbrev pub invariant-loop-copies : goal.invariant-loop-copies
invariant-loop-copies l = AreLeftOn (length l.fn.all.items) l.initial.self (drop (length l.yielded) l.fn.all.items) l.self
