use Rattle.std.proofs.Common.{subst}
use Rattle.scene_journal.specs.FirstFaults.{FutureFits, PastFits}
use Rattle.scene_undo.specs.declared.direction.Direction.TheVariants.{Undo, Redo}
use Rattle.scene_undo.specs.Editor.{EditorState}
use Rattle.scene_undo.proofs.EditorLaws.{found}
use Rattle.scene_undo.proofs.Turns.{all_fit}
use Rattle.scene_undo.proofs.editor.Editor.records.Goals as goal

pub returns-clause-fit_back : goal.returns-clause-fit_back
returns-clause-fit_back c =
    let w = c.self.inside.recorder in
    let s = c.self.inside.stacks in
    subst (λ (e : EditorState). PastFits e.past e.world) c.self.view_is
    (all_fit Undo w.room s.past w.world (found w.room s.past s.future w.world c.self.invariant.1).0)

pub returns-clause-fit_on : goal.returns-clause-fit_on
returns-clause-fit_on c =
    let w = c.self.inside.recorder in
    let s = c.self.inside.stacks in
    subst (λ (e : EditorState). FutureFits e.future e.world) c.self.view_is
    (all_fit Redo w.room s.future w.world (found w.room s.past s.future w.world c.self.invariant.1).1)
