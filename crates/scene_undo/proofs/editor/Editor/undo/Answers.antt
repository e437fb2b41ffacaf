use Rattle.std.proofs.Common.{ap, subst, sym, ◌∙◌}
use Rattle.scene_undo.specs.declared.direction.Direction.TheVariants.{Undo}
use Rattle.scene_undo.specs.Copies.{AreOfFirst}
use Rattle.scene_undo.specs.Editor.{EditorState}
use Rattle.scene_undo.proofs.editor.Editor.undo.Goals as goal

pub undo_copied-requires-clause-copies : goal.undo_copied-requires-clause-copies
undo_copied-requires-clause-copies c =
    subst (AreOfFirst Undo c.in_ok-copies.copies.items) (sym c.in-Some.ensures.1 ∙ ap (λ (e : EditorState). e.past) c.self.view_is) c.in_ok-copies.ensures
