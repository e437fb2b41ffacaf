use Rattle.std.proofs.Common.{ap, string_bytes, subst, ◌∙◌, ◌≡◌}
use Rattle.std.specs.Prelude.{OnErr, OnOk}
use Rattle.scene_kinds.specs.Answers.{Answers}
use Rattle.scene_journal.specs.Records.{Record}
use Rattle.scene_undo.specs.FurtherKind.{declare_throughout, with_kind_now}
use Rattle.scene_undo.specs.Editor.{EditorState, machine_of}
use Rattle.scene_undo.proofs.EditorLaws.{elsewhere, found}
use Rattle.scene_undo.proofs.FurtherKind.{declared_can, in_world, machine_declared, records_declared, same_refused}
use Rattle.scene_undo.proofs.editor.Editor.declare.Goals as goal

pub invariant_of-self : goal.invariant_of-self
invariant_of-self c =
    let w = c.self.inside.recorder in
    let v = c.declare.new.self in
    let s = c.self.inside.stacks in
    let now = declared_can (string_bytes c.args.name) c.args.shape c.declare.result w.room s.past s.future w.world v.world c.declare.ensures.answer
    (found w.room s.past s.future w.world c.self.invariant.1) in
    let at = elsewhere w.room v.room v.world v.world s.past s.future c.declare.ensures.room (λ i. v.world) now in
    (ap (λ (r : Record). r.deltas) c.declare.ensures.frame ∙ c.self.invariant.0, ∣ (at.0, at.1) ∣₁, c.self.invariant.2)

pub returns-clause-machine : goal.returns-clause-machine
returns-clause-machine c =
    let w = c.self.inside.recorder in
    let v = c.declare.new.self in
    let s = c.self.inside.stacks in
    let name = string_bytes c.args.name in
    let start : EditorState = record { world = w.world; past = s.past; future = s.future; rewinds = c.self.inside.rewinds; depth = s.depth } in
    subst (λ (e : EditorState). Answers c.declare.result (machine_of e) (machine_of (in_world start v.world)) (declare_throughout name c.args.shape (machine_of e))) c.self.view_is
    (machine_declared name c.args.shape c.declare.result start v.world c.declare.ensures.answer)

pub returns-clause-records : goal.returns-clause-records
returns-clause-records c =
    let w = c.self.inside.recorder in
    let v = c.declare.new.self in
    let s = c.self.inside.stacks in
    let name = string_bytes c.args.name in
    let start : EditorState = record { world = w.world; past = s.past; future = s.future; rewinds = c.self.inside.rewinds; depth = s.depth } in
    subst (λ (e : EditorState). OnOk c.declare.result (in_world start v.world ≡ with_kind_now name c.args.shape e)) c.self.view_is
    (records_declared name c.args.shape c.declare.result start v.world c.declare.ensures.answer)

pub returns-clause-same : goal.returns-clause-same
returns-clause-same c =
    let w = c.self.inside.recorder in
    let v = c.declare.new.self in
    let s = c.self.inside.stacks in
    let start : EditorState = record { world = w.world; past = s.past; future = s.future; rewinds = c.self.inside.rewinds; depth = s.depth } in
    subst (λ (e : EditorState). OnErr c.declare.result (in_world start v.world ≡ e)) c.self.view_is
    (same_refused (string_bytes c.args.name) c.args.shape c.declare.result start v.world c.declare.ensures.answer)
