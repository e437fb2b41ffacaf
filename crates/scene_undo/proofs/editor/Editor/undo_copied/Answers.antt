use Rattle.std.proofs.Common.{Ok, ap, arith, length, subst, sym, ◌+◌, ◌∙◌, ◌∷◌, ◌≡◌}
use Rattle.scene_machine.specs.Machine.{undo}
use Rattle.scene_journal.specs.Records.{undone}
use Rattle.scene_undo.specs.declared.direction.Direction.TheVariants.{Undo}
use Rattle.scene_undo.specs.Copies.{AreOfFirst}
use Rattle.scene_undo.specs.Editor.{EditorState, machine_of}
use Rattle.scene_undo.specs.Kept.{CanUndoAll}
use Rattle.scene_undo.proofs.EditorLaws.{elsewhere, found, of_equal}
use Rattle.scene_undo.proofs.Machines.{undone_future, machine_undone, told_apart}
use Rattle.scene_undo.proofs.editor.Editor.undo_copied.Goals as goal

pub undo_copied-requires-clause-fits : goal.undo_copied-requires-clause-fits
undo_copied-requires-clause-fits c =
    let w = c.self.inside.recorder in
    let both = found w.room c.self.inside.stacks.past c.self.inside.stacks.future w.world c.self.invariant.1 in
    (subst (λ rs. CanUndoAll w.room rs w.world) c.in-Some.ensures.1 both.0).0.fits

pub undo_copied-requires-clause-ready : goal.undo_copied-requires-clause-ready
undo_copied-requires-clause-ready c =
    let w = c.self.inside.recorder in
    let both = found w.room c.self.inside.stacks.past c.self.inside.stacks.future w.world c.self.invariant.1 in
    (subst (λ rs. CanUndoAll w.room rs w.world) c.in-Some.ensures.1 both.0).0.ready

pub undo_copied-requires-clause-copies : goal.undo_copied-requires-clause-copies
undo_copied-requires-clause-copies c =
    subst (AreOfFirst Undo c.args.copies.items) (ap (λ (e : EditorState). e.past) (sym c.self.view_is) ∙ c.in-Some.ensures.1) c.requires.copies

pub invariant_of-self : goal.invariant_of-self
invariant_of-self c =
    let w = c.self.inside.recorder in
    let v = c.undo_copied.new.self in
    let s = c.self.inside.stacks in
    let t = c.undo.new.self in
    let moved = c.undo.ensures.moved in
    let r = moved.0 in
    let both = found w.room s.past s.future w.world c.self.invariant.1 in
    let from = subst (λ rs. CanUndoAll w.room rs w.world) moved.1.0 both.0 in
    let first : c.in-Some.record.now ∷ c.in-Some.ensures.0 ≡ r ∷ t.past = sym c.in-Some.ensures.1 ∙ moved.1.0 in
    let same : c.in-Some.record.now ≡ r = cc in
    let made : v.world ≡ undone r w.world = c.undo_copied.ensures.done ∙ ap (λ q. undone q w.world) same in
    let gone = undone_future w.room r w.world c.world_is_sound.ensures.valid c.world_is_sound.ensures.held s.future from.0 both.1 in
    let at = of_equal v.room v.world t.past t.past (r ∷ s.future) t.future (λ i. t.past) moved.1.1
    (elsewhere w.room v.room (undone r w.world) v.world t.past (r ∷ s.future) c.undo_copied.ensures.room made (from.1, gone)) in
    (c.undo_copied.ensures.empty, ∣ (at.0, at.1) ∣₁, omega (arith, c.self.invariant.2, ap length moved.1.0, c.undo.ensures.depth))

pub returns-clause-machine : goal.returns-clause-machine
returns-clause-machine c =
    let w = c.self.inside.recorder in
    let s = c.self.inside.stacks in
    let t = c.undo.new.self in
    let moved = c.undo.ensures.moved in
    let r = moved.0 in
    let both = found w.room s.past s.future w.world c.self.invariant.1 in
    let from = subst (λ rs. CanUndoAll w.room rs w.world) moved.1.0 both.0 in
    let first : c.in-Some.record.now ∷ c.in-Some.ensures.0 ≡ r ∷ t.past = sym c.in-Some.ensures.1 ∙ moved.1.0 in
    let same : c.in-Some.record.now ≡ r = cc in
    let made : c.undo_copied.new.self.world ≡ undone r w.world = c.undo_copied.ensures.done ∙ ap (λ q. undone q w.world) same in
    let n = c.self.inside.rewinds in
    let few = c.requires.counted in
    let counts = ap (λ (e : EditorState). e.rewinds) c.self.view_is in
    ap (λ (e : EditorState). undo (machine_of e))
    (sym c.self.view_is ∙ (λ i. record { world = w.world; past = moved.1.0 i; future = s.future; rewinds = n; depth = s.depth }))
    ∙ machine_undone w.room r w.world t.past s.future n s.depth c.world_is_sound.ensures.valid c.world_is_sound.ensures.held from.0
    (told_apart n 18446744073709551615 (λ is. absurd (omega (arith, is, few, counts))))
    ∙ (λ i. Ok (
      tt,
      machine_of (record { world = sym made i; past = t.past; future = sym moved.1.1 i; rewinds = n + 1; depth = sym c.undo.ensures.depth i }),
    ))
