use Rattle.std.proofs.Common.{ap, subst, sym, ◌∙◌}
use Rattle.scene_undo.specs.declared.direction.Direction.TheVariants.{Redo}
use Rattle.scene_undo.specs.Copies.{AreOfFirst}
use Rattle.scene_undo.specs.Editor.{EditorState}
use Rattle.scene_undo.proofs.editor.Editor.redo.Goals as goal

pub redo_copied-requires : goal.redo_copied-requires
redo_copied-requires c =
    subst (AreOfFirst Redo c.in_ok-copies.copies.items) (sym c.in-Some.ensures.1 ∙ ap (λ (e : EditorState). e.future) c.self.view_is) c.in_ok-copies.ensures
