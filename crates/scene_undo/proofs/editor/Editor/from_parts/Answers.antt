use Rattle.std.proofs.Common.{◌≡◌, ◌+◌, length, reverse, take, ap, arith, subst, sym, ◌∙◌}
use Rattle.std.proofs.lemmas.List.{length-reverse}
use Rattle.scene_kinds.specs.declared.fault.Fault.TheVariants.{BadRecord}
use Rattle.scene_kinds.specs.Answers.{refusal_of}
use Rattle.scene_undo.specs.declared.direction.Direction.TheVariants.{Undo, Redo}
use Rattle.scene_undo.specs.Direction.{CanAll}
use Rattle.scene_undo.specs.Kept.{CanUndoAll, CanRedoAll}
use Rattle.scene_undo.specs.Parts.{IsFirstFault, NamesFrame}
use Rattle.scene_undo.proofs.EditorLaws.{at_rest, newest, within}
use Rattle.scene_undo.proofs.TwoStacks.{future_fault, in_range, kept, past_fault}
use Rattle.scene_undo.proofs.Turns.{all_fit}
use Rattle.scene_undo.proofs.editor.Editor.from_parts.Goals as goal

pub returns-in-Err-clause-refused : goal.returns-in-Err-clause-refused
returns-in-Err-clause-refused c =
    let w = c.args.world.world in
    let r = c.in-Err.refusal in
    let past = reverse c.args.past.items in
    let named = subst (λ rs. NamesFrame (IsFirstFault Undo (reverse rs) w) r) c.as_slice.ensures.value c.in-Err.ensures.refused in
    past_fault past c.args.future.items w r named

pub invariant_of-result : goal.invariant_of-result
invariant_of-result c =
    let w = c.args.world.world in
    let first = c.try_records.new.draft in
    let last = c.try_records-2.new.draft in
    let past = reverse c.args.past.items in
    let future = c.args.future.items in
    let same = c.in_default.ensures.same in
    let undoes = subst (λ rs. CanAll Undo first.room (reverse rs) w) c.as_slice.ensures.value c.in_default.ensures.can in
    let redoes =
    subst (λ u. CanAll Redo last.room future u) same
    (subst (λ rs. CanAll Redo last.room rs first.world) c.as_slice-2.ensures.value c.in_default-try_records.ensures.can) in
    let both = kept first.room last.room past future w c.try_records-2.ensures.wide undoes redoes in
    let here : last.world ≡ w = c.in_default-try_records.ensures.same ∙ same in
    let at = subst (λ u. CanUndoAll last.room (take c.args.depth past) u × CanRedoAll last.room future u) (sym here)
    (newest last.room c.args.depth past w both.0, both.1) in
    let past_kept = subst (λ rs. CanUndoAll last.room rs last.world) (sym c.in_ok-stacks.ensures.past) at.0 in
    let future_kept = subst (λ rs. CanRedoAll last.room rs last.world) (sym c.in_ok-stacks.ensures.future) at.1 in
    let rest = at_rest c.idle-recorder.result last.world last.room c.in_ok-stacks.stacks.past c.in_ok-stacks.stacks.future c.idle-recorder.ensures past_kept future_kept in
    (rest.0, rest.1, within c.args.depth c.in_ok-stacks.stacks.depth past c.in_ok-stacks.stacks.past c.in_ok-stacks.ensures.past c.in_ok-stacks.ensures.depth)

pub after_frames-named-requires : goal.after_frames-named-requires
after_frames-named-requires c = λ frame delta is.
    let w = c.try_records.new.draft.world in
    let future = c.args.future in
    let past = c.args.past in
    let low = in_range Redo c.as_slice-2.result.now w c.in-Err-try_records.refusal c.in-Err-try_records.ensures.refused frame delta is in
    let there : length c.as_slice-2.result.now ≡ length future.items = ap length c.as_slice-2.ensures.value in
    let count = c.len.ensures in
    let a = past.ok.0 in
    let b = past.ok.1 in
    let d = past.small in
    let e = future.ok.0 in
    let f = future.ok.1 in
    let g = future.small in
    omega (arith, low, there, count, a, b, d, e, f, g)

pub returns-clause-past : goal.returns-clause-past
returns-clause-past c =
    let w = c.args.world.world in
    all_fit Undo c.try_records.new.draft.room (reverse c.args.past.items) w
    (subst (λ rs. CanAll Undo c.try_records.new.draft.room (reverse rs) w) c.as_slice.ensures.value c.in_default.ensures.can)

pub returns-clause-future : goal.returns-clause-future
returns-clause-future c =
    let last = c.try_records-2.new.draft in
    let first = c.try_records.new.draft in
    all_fit Redo last.room c.args.future.items c.args.world.world
    (subst (λ u. CanAll Redo last.room c.args.future.items u) c.in_default.ensures.same
    (subst (λ rs. CanAll Redo last.room rs first.world) c.as_slice-2.ensures.value c.in_default-try_records.ensures.can))

pub returns-in-Err-try_records-clause-refused : goal.returns-in-Err-try_records-clause-refused
returns-in-Err-try_records-clause-refused c =
    let w = c.args.world.world in
    let first = c.try_records.new.draft in
    let past = reverse c.args.past.items in
    let fits = all_fit Undo first.room past w
    (subst (λ rs. CanAll Undo first.room (reverse rs) w) c.as_slice.ensures.value c.in_default.ensures.can) in
    let here = subst (λ u. NamesFrame (IsFirstFault Redo c.args.future.items u) c.in-Err-try_records.refusal) c.in_default.ensures.same
    (subst (λ rs. NamesFrame (IsFirstFault Redo rs first.world) c.in-Err-try_records.refusal) c.as_slice-2.ensures.value c.in-Err-try_records.ensures.refused) in
    future_fault past c.args.future.items w c.in-Err-try_records.refusal c.after_frames-named.result fits here
    (λ frame delta is. c.after_frames-named.ensures.named frame delta is
    ∙ ap (λ n. refusal_of (BadRecord (n + frame) delta)) (c.len.ensures ∙ c.args.past.ok.0 ∙ sym (length-reverse c.args.past.items)))
    c.after_frames-named.ensures.memory
