use Rattle.std.proofs.Common.{length, ap, sym, ◌∙◌, arith}
use Rattle.std.specs.Prelude.{Err}
use Rattle.scene_undo.specs.Editor.{EditorState}
use Rattle.scene_undo.proofs.SeveralCalls.{can_redo, redo_missing}
use Rattle.scene_undo.proofs.editor.Editor.may_redo_by.Goals as goal

pub returns-then-future_len-count-clause-refused : goal.returns-then-future_len-count-clause-refused
returns-then-future_len-count-clause-refused c =
    let future = ap (λ (e : EditorState). length e.future) c.self.view_is in
    let is = c.future_len.ensures in
    let missing = c.if-future_len-count.true in
    redo_missing c.args.count c.args.self.now (omega (arith, future, is, missing)) ∙ ap (λ r. Err r) (sym c.from.ensures)

pub returns-clause-done : goal.returns-clause-done
returns-clause-done c =
    let future = ap (λ (e : EditorState). length e.future) c.self.view_is in
    let is = c.future_len.ensures in
    let enough = c.if-future_len-count.false in
    can_redo c.args.count c.args.self.now (omega (arith, future, is, enough))
