use Rattle.std.proofs.Common.{subst}
use Rattle.scene_journal.specs.Records.{undone}
use Rattle.scene_undo.specs.BackAndForth.{IsWithinDepth}
use Rattle.scene_undo.specs.Editor.{EditorState, machine_of}
use Rattle.scene_undo.proofs.BackAndForth.{both_ways, undo_then_redo}
use Rattle.scene_undo.proofs.Machines.{no_more_worlds}
use Rattle.scene_undo.proofs.editor.Editor.undo_and_redo_come_back.Goals as goal

pub returns : goal.returns
returns c =
    let within : IsWithinDepth (machine_of c.args.self.now) =
    subst (λ (e : EditorState). IsWithinDepth (machine_of e)) c.self.view_is (no_more_worlds undone c.self.inside.stacks.past c.self.inside.recorder.world c.self.inside.stacks.depth c.self.invariant.2) in
    record { within = within; undo_redo = undo_then_redo (machine_of c.args.self.now) within; redo_undo = both_ways (machine_of c.args.self.now) }
