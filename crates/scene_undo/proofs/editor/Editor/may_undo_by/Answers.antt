use Rattle.std.proofs.Common.{◌+◌, ◌≤◌, ◌^◌, length, ap, sym, ◌∙◌, arith}
use Rattle.std.specs.Prelude.{Err}
use Rattle.scene_undo.specs.Editor.{EditorState}
use Rattle.scene_undo.proofs.SeveralCalls.{can_undo, undo_missing, undo_uncounted}
use Rattle.scene_undo.proofs.editor.Editor.may_undo_by.Goals as goal
use Rattle.scene_undo.proofs.editor.Editor.may_undo_by.Goals.{else-frames-count-via-then-frames-count+else-frames-left, else-frames-count-via-else-frames-count}

pub returns-then-frames-left-clause-refused : goal.returns-then-frames-left-clause-refused
returns-then-frames-left-clause-refused c =
    let past = ap (λ (e : EditorState). length e.past) c.self.view_is in
    let rewinds = ap (λ (e : EditorState). e.rewinds) c.self.view_is in
    let is = c.past_len-frames.ensures in
    let missing = c.if-frames-count.true in
    let few = c.if-frames-left.true in
    undo_missing c.args.count c.args.self.now (omega (arith, past, is, missing)) (omega (arith, past, rewinds, is, few)) ∙ ap (λ r. Err r) (sym c.from.ensures)

pub returns-then-left-count-clause-refused : goal.returns-then-left-count-clause-refused
returns-then-left-count-clause-refused c =
    let past = ap (λ (e : EditorState). length e.past) c.self.view_is in
    let rewinds = ap (λ (e : EditorState). e.rewinds) c.self.view_is in
    let is = c.past_len-frames.ensures in
    let many = c.if-left-count.true in
    let more : 2 ^ 64 ≤ c.args.self.now.rewinds + length c.args.self.now.past = elim c.else-frames-count.branch [
      | else-frames-count-via-then-frames-count+else-frames-left w ↦ let over = w.if-frames-left in omega (arith, past, rewinds, is, over)
      | else-frames-count-via-else-frames-count w ↦ let enough = w.if-frames-count in omega (arith, past, rewinds, is, many, enough)
    ] in
    undo_uncounted c.args.count c.args.self.now (omega (arith, rewinds)) (omega (arith, rewinds, many)) more ∙ ap (λ r. Err r) (sym c.from-then-left-count.ensures)

pub returns-clause-done : goal.returns-clause-done
returns-clause-done c =
    let past = ap (λ (e : EditorState). length e.past) c.self.view_is in
    let rewinds = ap (λ (e : EditorState). e.rewinds) c.self.view_is in
    let is = c.past_len-frames.ensures in
    let few = c.if-left-count.false in
    let enough : c.args.count ≤ length c.args.self.now.past = elim c.else-frames-count.branch [
      | else-frames-count-via-then-frames-count+else-frames-left w ↦ let over = w.if-frames-left in omega (arith, past, rewinds, is, over, few)
      | else-frames-count-via-else-frames-count w ↦ let all = w.if-frames-count in omega (arith, past, is, all)
    ] in
    can_undo c.args.count c.args.self.now enough (omega (arith, rewinds, few))
