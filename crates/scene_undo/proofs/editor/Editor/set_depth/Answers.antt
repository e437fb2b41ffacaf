use Rattle.std.proofs.Common.{take}
use Rattle.scene_undo.proofs.EditorLaws.{found, newest, of_equal, within}
use Rattle.scene_undo.proofs.editor.Editor.set_depth.Goals as goal

pub invariant_of-self : goal.invariant_of-self
invariant_of-self c =
    let w = c.self.inside.recorder in
    let s = c.self.inside.stacks in
    let t = c.set_depth.new.self in
    let both = found w.room s.past s.future w.world c.self.invariant.1 in
    let at = of_equal w.room w.world (take c.args.depth s.past) t.past s.future t.future c.set_depth.ensures.past c.set_depth.ensures.future
    (newest w.room c.args.depth s.past w.world both.0, both.1) in
    (c.self.invariant.0, ∣ (at.0, at.1) ∣₁, within c.args.depth t.depth s.past t.past c.set_depth.ensures.past c.set_depth.ensures.depth)
