use Rattle.std.proofs.Common.{◌≡◌, ◌++◌, refl, ap, subst, sym, ◌∙◌, Some, Ok}
use Rattle.scene_links.specs.Forest.{post}
use Rattle.scene_model.specs.Commands.{despawn_recursive}
use Rattle.scene_model.specs.Perform.{DespawnRecursive}
use Rattle.scene_world.specs.Room.{IsWider}
use Rattle.scene_world.proofs.Room.{wider_self}
use Rattle.scene_world.specs.Stage.{noting}
use Rattle.scene_deltas.specs.Notes.{deltas_of, despawned_each, cut_each, CanCutEach}
use Rattle.scene_deltas.specs.Ready.{AreReady}
use Rattle.scene_deltas.specs.Deltas.{back_all}
use Rattle.scene_journal.specs.Records.{record_of}
use Rattle.scene_journal.specs.Recorder.{Recording, began, began_with, staged_of}
use Rattle.scene_journal.proofs.CutRows.{recursive_each}
use Rattle.scene_deltas.proofs.Ready.{back_appended, ready_appended}
use Rattle.scene_journal.proofs.Recorded.{noted_ok, stays_ready}
use Rattle.scene_deltas.proofs.Truncated.{found_ready}
use Rattle.scene_journal.proofs.recorder.RecorderStage.despawn_recursive.Goals as goal

pub cut_each-requires : goal.cut_each-requires
cut_each-requires c =
    let w = c.self.inside.world.world in
    subst (λ es. CanCutEach es w) (sym (c.as_slice.ensures.value ∙ c.in_ok-order.ensures.value ∙ ap (λ f. post f c.args.entity) c.links.ensures))
    (recursive_each w c.args.entity c.is_sound.ensures.valid (sym c.is_alive.ensures ∙ c.if-not-is_alive.false)).0

pub invariant_of-self-in-Ok : goal.invariant_of-self-in-Ok
invariant_of-self-in-Ok c =
    let w = c.self.inside.world in
    let v = c.cut_each.new.world in
    let ds = c.self.inside.deltas.items in
    let es = c.in_ok-made.made.items in
    let kept = c.in-Ok.ensures.done in
    let before = found_ready w.room ds w.world c.self.invariant.0 in (
      ∣ subst (λ xs. AreReady v.room xs v.world) (sym kept)
          (ready_appended v.room ds es v.world c.in_ok-made.ensures.ready
          (subst (AreReady v.room ds) (sym c.in_ok-made.ensures.opening) (subst (λ r. AreReady r ds w.world) (sym c.cut_each.ensures.room) before))) ∣₁,
      c.end.ensures v.world,
    )

pub returns-in-Ok-clause-answer : goal.returns-in-Ok-clause-answer
returns-in-Ok-clause-answer c =
    let w = c.self.inside.world.world in
    let v = c.cut_each.new.world.world in
    let ds = c.self.inside.deltas.items in
    let es = c.in_ok-made.made.items in
    let order = c.as_slice.ensures.value ∙ c.in_ok-order.ensures.value ∙ ap (λ f. post f c.args.entity) c.links.ensures in
    let kept = c.in-Ok.ensures.done in
    let start : Recording = record { world = w; frame = record_of c.self.inside.tick_before ds; room = c.self.inside.world.room } in
    let whole = recursive_each w c.args.entity c.is_sound.ensures.valid (sym c.is_alive.ensures ∙ c.if-not-is_alive.false) in
    subst (λ (s : Recording). noting (staged_of s) (deltas_of s.world (DespawnRecursive c.args.entity)) (despawn_recursive s.world c.args.entity) ≡ Ok (tt, record { world = v; notes = c.append.new.self.items })) c.self.view_is
    (noted_ok (staged_of start) (deltas_of w (DespawnRecursive c.args.entity)) (despawn_recursive w c.args.entity) tt v (cut_each (post w.children c.args.entity) w) c.append.new.self.items whole.1
    (c.in_ok-made.ensures.made ∙ ap (λ xs. cut_each xs w) order)
    (kept ∙ ap (λ xs. ds ++ xs) (c.in_ok-made.ensures.noted ∙ ap (λ xs. despawned_each xs w) order)))

pub returns-in-Ok-clause-opening : goal.returns-in-Ok-clause-opening
returns-in-Ok-clause-opening c =
    let v = c.cut_each.new.world.world in
    let ds = c.self.inside.deltas.items in
    let es = c.in_ok-made.made.items in
    let kept = c.in-Ok.ensures.done in
    ap (λ u. Some (began_with c.self.inside.tick_before u)) (ap (λ xs. back_all xs v) kept ∙ back_appended ds es v ∙ ap (back_all ds) c.in_ok-made.ensures.opening)
    ∙ ap (λ (r : Recording). Some (began r)) c.self.view_is

pub invariant_of-self : goal.invariant_of-self
invariant_of-self c = (c.self.invariant.0, c.end.ensures c.self.inside.world.world)

pub invariant_of-self-in_err-order : goal.invariant_of-self-in_err-order
invariant_of-self-in_err-order c = (c.self.invariant.0, c.end.ensures c.self.inside.world.world)

pub invariant_of-self-in_err-made : goal.invariant_of-self-in_err-made
invariant_of-self-in_err-made c =
    let w = c.self.inside.world in
    let v = c.cut_each.new.world in
    let ds = c.self.inside.deltas.items in
    (stays_ready w.room v.room ds ds w.world v.world c.self.invariant.0 (subst (IsWider w.room) (sym c.cut_each.ensures.room) (wider_self w.room)) c.in_err-made.ensures.back refl, c.end.ensures v.world)

pub invariant_of-self-in-Err : goal.invariant_of-self-in-Err
invariant_of-self-in-Err c =
    let w = c.self.inside.world in
    let v = c.cut_each.new.world in
    let u = c.take_all_back.new.world in
    let full = c.in-Err.ensures.full in
    let same = c.take_all_back.ensures.world ∙ ap (λ xs. back_all xs v.world) full.1 ∙ c.in_ok-made.ensures.opening in
    let wide = subst (IsWider w.room) (sym (c.take_all_back.ensures.room ∙ c.cut_each.ensures.room)) (wider_self w.room) in
    (stays_ready w.room u.room c.self.inside.deltas.items c.append.new.self.items w.world u.world c.self.invariant.0 wide same full.0, c.end.ensures u.world)
