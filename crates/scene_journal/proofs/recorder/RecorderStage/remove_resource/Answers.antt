use Rattle.std.proofs.Common.{◌++◌, ◌∷◌, [], ap, ◌∙◌, Some}
use Rattle.scene_model.specs.Perform.{RemoveResource}
use Rattle.scene_journal.specs.Recorder.{Recording, began, began_with}
use Rattle.scene_deltas.proofs.Commands.{remove_resource_leads}
use Rattle.scene_model.specs.World.{World}
use Rattle.scene_journal.proofs.LiveRuns.{kept_tables}
use Rattle.scene_journal.proofs.Recorded.{stays_ready, goes_ready, goes_back}
use Rattle.scene_journal.proofs.recorder.RecorderStage.remove_resource.Goals as goal

pub invariant_of-self-in_err-remove_resource : goal.invariant_of-self-in_err-remove_resource
invariant_of-self-in_err-remove_resource c = (
  stays_ready c.self.inside.world.room c.remove_resource.new.self.room c.self.inside.deltas.items c.reserve.new.self.items c.self.inside.world.world c.remove_resource.new.self.world
      c.self.invariant.0 c.remove_resource.ensures.wide c.in_err-remove_resource.ensures.answer.0 c.reserve.ensures.items,
  kept_tables c.self.inside.world.world c.remove_resource.new.self.world c.self.inside.runs (ap (λ (u : World). u.tables) c.in_err-remove_resource.ensures.answer.0) c.self.invariant.1,
)

pub invariant_of-self-2 : goal.invariant_of-self-2
invariant_of-self-2 c =
    let w = c.self.inside.world in
    let v = c.remove_resource.new.self in (
      goes_ready w.room v.room c.self.inside.deltas.items c.push_reserved.new.self.items w.world v.world (RemoveResource c.args.name.now) (Some c.in_ok-delta.delta)
          c.is_sound.ensures.valid c.in_ok-delta.ensures (remove_resource_leads w.world v.world c.args.name.now c.is_sound.ensures.valid c.in_ok-remove_resource.ensures.answer)
          (c.push_reserved.ensures.items ∙ ap (λ xs. xs ++ c.in_ok-delta.delta ∷ []) c.reserve.ensures.items) c.is_sound.ensures.held c.remove_resource.ensures.wide c.self.invariant.0,
      kept_tables w.world v.world c.self.inside.runs (ap (λ (u : World). u.tables) (remove_resource_leads w.world v.world c.args.name.now c.is_sound.ensures.valid c.in_ok-remove_resource.ensures.answer).made) c.self.invariant.1,
    )

pub returns-clause-opening : goal.returns-clause-opening
returns-clause-opening c =
    let w = c.self.inside.world in
    let v = c.remove_resource.new.self in
    ap (λ u. Some (began_with c.self.inside.tick_before u)) (goes_back w.room v.room c.self.inside.deltas.items c.push_reserved.new.self.items w.world v.world (RemoveResource c.args.name.now) (Some c.in_ok-delta.delta)
    c.is_sound.ensures.valid c.in_ok-delta.ensures (remove_resource_leads w.world v.world c.args.name.now c.is_sound.ensures.valid c.in_ok-remove_resource.ensures.answer)
    (c.push_reserved.ensures.items ∙ ap (λ xs. xs ++ c.in_ok-delta.delta ∷ []) c.reserve.ensures.items))
    ∙ ap (λ (r : Recording). Some (began r)) c.self.view_is
