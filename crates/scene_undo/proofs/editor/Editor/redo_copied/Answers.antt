use Rattle.std.proofs.Common.{Ok, ap, subst, sym, take, ◌∙◌, ◌∷◌, ◌≡◌}
use Rattle.scene_machine.specs.Machine.{redo}
use Rattle.scene_journal.specs.Records.{redone}
use Rattle.scene_undo.specs.declared.direction.Direction.TheVariants.{Redo}
use Rattle.scene_undo.specs.Copies.{AreOfFirst}
use Rattle.scene_undo.specs.Editor.{EditorState, machine_of}
use Rattle.scene_undo.specs.Kept.{CanRedoAll}
use Rattle.scene_undo.proofs.EditorLaws.{elsewhere, found, newest, of_equal, within}
use Rattle.scene_undo.proofs.Machines.{redone_past, machine_redone}
use Rattle.scene_undo.proofs.editor.Editor.redo_copied.Goals as goal

pub redo_copied-requires-clause-fits : goal.redo_copied-requires-clause-fits
redo_copied-requires-clause-fits c =
    let w = c.self.inside.recorder in
    let both = found w.room c.self.inside.stacks.past c.self.inside.stacks.future w.world c.self.invariant.1 in
    (subst (λ rs. CanRedoAll w.room rs w.world) c.in-Some.ensures.1 both.1).0.fits

pub redo_copied-requires-clause-ready : goal.redo_copied-requires-clause-ready
redo_copied-requires-clause-ready c =
    let w = c.self.inside.recorder in
    let both = found w.room c.self.inside.stacks.past c.self.inside.stacks.future w.world c.self.invariant.1 in
    (subst (λ rs. CanRedoAll w.room rs w.world) c.in-Some.ensures.1 both.1).0.ready

pub redo_copied-requires-clause-copies : goal.redo_copied-requires-clause-copies
redo_copied-requires-clause-copies c =
    subst (AreOfFirst Redo c.args.copies.items) (ap (λ (e : EditorState). e.future) (sym c.self.view_is) ∙ c.in-Some.ensures.1) c.requires

pub invariant_of-self : goal.invariant_of-self
invariant_of-self c =
    let w = c.self.inside.recorder in
    let v = c.redo_copied.new.self in
    let s = c.self.inside.stacks in
    let t = c.redo.new.self in
    let moved = c.redo.ensures.moved in
    let r = moved.0 in
    let both = found w.room s.past s.future w.world c.self.invariant.1 in
    let from = subst (λ rs. CanRedoAll w.room rs w.world) moved.1.0 both.1 in
    let first : c.in-Some.record.now ∷ c.in-Some.ensures.0 ≡ r ∷ t.future = sym c.in-Some.ensures.1 ∙ moved.1.0 in
    let same : c.in-Some.record.now ≡ r = cc in
    let made : v.world ≡ redone r w.world = c.redo_copied.ensures.done ∙ ap (λ q. redone q w.world) same in
    let on = redone_past w.room r w.world c.world_is_sound.ensures.valid c.world_is_sound.ensures.held s.past from.0 both.0 in
    let kept = newest w.room s.depth (r ∷ s.past) (redone r w.world) on in
    let at = of_equal v.room v.world (take s.depth (r ∷ s.past)) t.past t.future t.future moved.1.1 (λ i. t.future)
    (elsewhere w.room v.room (redone r w.world) v.world (take s.depth (r ∷ s.past)) t.future c.redo_copied.ensures.room made (kept, from.1)) in
    (c.redo_copied.ensures.empty, ∣ (at.0, at.1) ∣₁, within s.depth t.depth (r ∷ s.past) t.past moved.1.1 c.redo.ensures.depth)

pub returns-clause-machine : goal.returns-clause-machine
returns-clause-machine c =
    let w = c.self.inside.recorder in
    let s = c.self.inside.stacks in
    let t = c.redo.new.self in
    let moved = c.redo.ensures.moved in
    let r = moved.0 in
    let both = found w.room s.past s.future w.world c.self.invariant.1 in
    let from = subst (λ rs. CanRedoAll w.room rs w.world) moved.1.0 both.1 in
    let first : c.in-Some.record.now ∷ c.in-Some.ensures.0 ≡ r ∷ t.future = sym c.in-Some.ensures.1 ∙ moved.1.0 in
    let same : c.in-Some.record.now ≡ r = cc in
    let made : c.redo_copied.new.self.world ≡ redone r w.world = c.redo_copied.ensures.done ∙ ap (λ q. redone q w.world) same in
    let n = c.self.inside.rewinds in
    ap (λ (e : EditorState). redo (machine_of e))
    (sym c.self.view_is ∙ (λ i. record { world = w.world; past = s.past; future = moved.1.0 i; rewinds = n; depth = s.depth }))
    ∙ machine_redone w.room r w.world t.future s.past n s.depth c.world_is_sound.ensures.valid c.world_is_sound.ensures.held from.0
    ∙ (λ i. Ok (
      tt,
      machine_of (record { world = sym made i; past = sym moved.1.1 i; future = t.future; rewinds = n; depth = sym c.redo.ensures.depth i }),
    ))
