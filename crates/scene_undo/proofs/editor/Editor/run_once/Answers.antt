use Rattle.std.proofs.Common.{◌≡◌, [], ◌∷◌, length, take, arith, ap, subst, sym, ◌∙◌, Ok}
use Rattle.scene_machine.specs.Machine.{submitted}
use Rattle.scene_world.specs.Room.{IsWider}
use Rattle.scene_machine.specs.Frame.{framed}
use Rattle.scene_undo.specs.Editor.{EditorState, machine_of}
use Rattle.scene_undo.specs.Kept.{CanUndoAll, CanRedoAll}
use Rattle.scene_undo.proofs.EditorLaws.{found, newest, of_equal, within}
use Rattle.scene_undo.proofs.Kept.{undo_wider, redo_wider}
use Rattle.scene_undo.proofs.Machines.{machine_framed}
use Rattle.scene_undo.proofs.WholeFrames.{out_back, out_can}
use Rattle.scene_undo.proofs.editor.Editor.run_once.Goals as goal

pub invariant_of-self : goal.invariant_of-self
invariant_of-self g c =
    let w = c.self.inside.recorder in
    let s = c.self.inside.stacks in
    let t = c.make_room.new.self in
    let at = of_equal w.room w.world s.past t.past s.future t.future c.make_room.ensures.same.past c.make_room.ensures.same.future
    (found w.room s.past s.future w.world c.self.invariant.1) in
    (c.self.invariant.0, ∣ (at.0, at.1) ∣₁, omega (arith, c.self.invariant.2, ap length c.make_room.ensures.same.past, c.make_room.ensures.same.depth))

pub invariant_of-self-in-Ok : goal.invariant_of-self-in-Ok
invariant_of-self-in-Ok g c =
    let w = c.self.inside.recorder in
    let v = c.frame.new.recorder in
    let f = c.finish.new.self in
    let s = c.self.inside.stacks in
    let t = c.keep.new.self in
    let room = c.make_room.ensures.same in
    let kept = c.finish.result in
    let both = found w.room s.past s.future w.world c.self.invariant.1 in
    let onto : t.past ≡ take s.depth (kept ∷ s.past) = c.keep.ensures.past ∙ (λ i. take (room.depth i) (kept ∷ room.past i)) in
    let wide = subst (IsWider w.room) (sym c.finish.ensures.room) c.frame.ensures.wide in
    let can = out_can v f kept c.finish.ensures.record c.finish.ensures.world c.in-Ok.ensures.can c.finish.ensures.ready in
    let back = out_back v f kept c.finish.ensures.record c.finish.ensures.world w.world c.in-Ok.ensures.back in
    let past : CanUndoAll f.room (kept ∷ s.past) f.world = (can, subst (CanUndoAll f.room s.past) (sym back) (undo_wider w.room f.room s.past w.world wide both.0)) in
    let at = of_equal f.room f.world (take s.depth (kept ∷ s.past)) t.past [] t.future onto c.keep.ensures.future
    (newest f.room s.depth (kept ∷ s.past) f.world past, tt) in
    (c.finish.ensures.empty, ∣ (at.0, at.1) ∣₁, within s.depth t.depth (kept ∷ s.past) t.past onto (c.keep.ensures.depth ∙ room.depth))

pub invariant_of-self-in-Err : goal.invariant_of-self-in-Err
invariant_of-self-in-Err g c =
    let w = c.self.inside.recorder in
    let v = c.frame.new.recorder in
    let s = c.self.inside.stacks in
    let t = c.make_room.new.self in
    let wide = c.frame.ensures.wide in
    let both = found w.room s.past s.future w.world c.self.invariant.1 in
    let at = of_equal v.room v.world s.past t.past s.future t.future c.make_room.ensures.same.past c.make_room.ensures.same.future
    (subst (λ u. CanUndoAll v.room s.past u × CanRedoAll v.room s.future u) (sym c.in-Err.ensures.same)
    (undo_wider w.room v.room s.past w.world wide both.0, redo_wider w.room v.room s.future w.world wide both.1)) in
    (c.in-Err.ensures.empty, ∣ (at.0, at.1) ∣₁, omega (arith, c.self.invariant.2, ap length c.make_room.ensures.same.past, c.make_room.ensures.same.depth))

pub returns-in-Ok-clause-machine : goal.returns-in-Ok-clause-machine
returns-in-Ok-clause-machine g c =
    let w = c.self.inside.recorder in
    let v = c.frame.new.recorder in
    let f = c.finish.new.self in
    let s = c.self.inside.stacks in
    let t = c.keep.new.self in
    let room = c.make_room.ensures.same in
    let kept = c.finish.result in
    let es = c.in-Ok.made.entities.items in
    let n = c.self.inside.rewinds in
    let does = framed (g.F.FrameOnce.does c.args.asked) in
    let start : EditorState = record { world = w.world; past = s.past; future = s.future; rewinds = n; depth = s.depth } in
    let onto : t.past ≡ take s.depth (kept ∷ s.past) = c.keep.ensures.past ∙ (λ i. take (room.depth i) (kept ∷ room.past i)) in
    let deep : t.depth ≡ s.depth = c.keep.ensures.depth ∙ room.depth in
    let back = out_back v f kept c.finish.ensures.record c.finish.ensures.world w.world c.in-Ok.ensures.back in
    ap (λ (e : EditorState). submitted (machine_of e) (does e.world)) (sym c.self.view_is)
    ∙ ap (submitted (machine_of start)) (c.in-Ok.ensures.done ∙ (λ i. Ok (es, sym c.finish.ensures.world i)))
    ∙ ap (λ m. Ok (es, m)) (machine_framed w.world f.world s.past s.future n s.depth kept back)
    ∙ (λ i. Ok (
      es,
      machine_of (record { world = f.world; past = sym onto i; future = sym c.keep.ensures.future i; rewinds = n; depth = sym deep i }),
    ))
