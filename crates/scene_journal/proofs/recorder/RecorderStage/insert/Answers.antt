use Rattle.std.proofs.Common.{◌++◌, ◌∷◌, [], ap, ◌∙◌, Some}
use Rattle.scene_model.specs.Perform.{Insert}
use Rattle.scene_journal.specs.Recorder.{Recording, began, began_with}
use Rattle.scene_deltas.proofs.Commands.{insert_leads}
use Rattle.scene_journal.proofs.Recorded.{same_ready, stays_ready, goes_ready, goes_back}
use Rattle.scene_journal.proofs.recorder.RecorderStage.insert.Goals as goal

pub invariant_of-self-in_err-delta : goal.invariant_of-self-in_err-delta
invariant_of-self-in_err-delta c = (
  stays_ready c.self.inside.world.room c.insert.new.world.room c.self.inside.deltas.items c.reserve.new.self.items c.self.inside.world.world c.insert.new.world.world
      c.self.invariant.0 c.insert.ensures.wide c.in_err-delta.ensures.back c.reserve.ensures.items,
  c.end.ensures c.insert.new.world.world,
)

pub invariant_of-self-2 : goal.invariant_of-self-2
invariant_of-self-2 c =
    let w = c.self.inside.world in
    let v = c.insert.new.world in (
      goes_ready w.room v.room c.self.inside.deltas.items c.push_reserved.new.self.items w.world v.world (Insert c.args.entity c.args.kind c.args.value) (Some c.in_ok-delta.delta)
          c.is_sound.ensures.valid c.in_ok-delta.ensures.noted (insert_leads w.world v.world c.args.entity c.args.kind c.args.value c.is_sound.ensures.valid c.in_ok-delta.ensures.made)
          (c.push_reserved.ensures.items ∙ ap (λ xs. xs ++ c.in_ok-delta.delta ∷ []) c.reserve.ensures.items) c.is_sound.ensures.held c.insert.ensures.wide c.self.invariant.0,
      c.end.ensures v.world,
    )

pub returns-clause-opening : goal.returns-clause-opening
returns-clause-opening c =
    let w = c.self.inside.world in
    let v = c.insert.new.world in
    ap (λ u. Some (began_with c.self.inside.tick_before u)) (goes_back w.room v.room c.self.inside.deltas.items c.push_reserved.new.self.items w.world v.world (Insert c.args.entity c.args.kind c.args.value) (Some c.in_ok-delta.delta)
    c.is_sound.ensures.valid c.in_ok-delta.ensures.noted (insert_leads w.world v.world c.args.entity c.args.kind c.args.value c.is_sound.ensures.valid c.in_ok-delta.ensures.made)
    (c.push_reserved.ensures.items ∙ ap (λ xs. xs ++ c.in_ok-delta.delta ∷ []) c.reserve.ensures.items))
    ∙ ap (λ (r : Recording). Some (began r)) c.self.view_is

pub invariant_of-self : goal.invariant_of-self
invariant_of-self c =
    let w = c.self.inside.world in (same_ready w.room c.self.inside.deltas.items c.reserve.new.self.items w.world c.self.invariant.0 c.reserve.ensures.items, c.end.ensures w.world)
