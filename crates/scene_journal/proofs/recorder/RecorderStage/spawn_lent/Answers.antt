use Rattle.std.proofs.Common.{◌++◌, ◌∷◌, [], ap, ◌∙◌, Some}
use Rattle.scene_model.specs.Perform.{Spawn}
use Rattle.scene_journal.specs.Recorder.{Recording, began, began_with}
use Rattle.scene_deltas.proofs.Commands.{spawn_leads}
use Rattle.scene_journal.proofs.Recorded.{same_ready, stays_ready, goes_ready, goes_back}
use Rattle.scene_journal.proofs.recorder.RecorderStage.spawn_lent.Goals as goal

pub invariant_of-self-in_err-entity : goal.invariant_of-self-in_err-entity
invariant_of-self-in_err-entity c = (
  stays_ready c.self.inside.world.room c.spawn_lent.new.world.room c.self.inside.deltas.items c.reserve.new.self.items c.self.inside.world.world c.spawn_lent.new.world.world
      c.self.invariant.0 c.spawn_lent.ensures.wide c.in_err-entity.ensures.back c.reserve.ensures.items,
  c.end.ensures c.spawn_lent.new.world.world,
)

pub invariant_of-self-2 : goal.invariant_of-self-2
invariant_of-self-2 c =
    let w = c.self.inside.world in
    let v = c.spawn_lent.new.world in (
      goes_ready w.room v.room c.self.inside.deltas.items c.push_reserved.new.self.items w.world v.world (Spawn c.args.cells.now) (Some c.in_ok-entity.delta)
          c.is_sound.ensures.valid c.in_ok-entity.ensures.noted (spawn_leads w.world v.world c.args.cells.now c.in_ok-entity.entity c.is_sound.ensures.valid c.in_ok-entity.ensures.made)
          (c.push_reserved.ensures.items ∙ ap (λ xs. xs ++ c.in_ok-entity.delta ∷ []) c.reserve.ensures.items) c.is_sound.ensures.held c.spawn_lent.ensures.wide c.self.invariant.0,
      c.end.ensures v.world,
    )

pub returns-clause-opening : goal.returns-clause-opening
returns-clause-opening c =
    let w = c.self.inside.world in
    let v = c.spawn_lent.new.world in
    ap (λ u. Some (began_with c.self.inside.tick_before u)) (goes_back w.room v.room c.self.inside.deltas.items c.push_reserved.new.self.items w.world v.world (Spawn c.args.cells.now) (Some c.in_ok-entity.delta)
    c.is_sound.ensures.valid c.in_ok-entity.ensures.noted (spawn_leads w.world v.world c.args.cells.now c.in_ok-entity.entity c.is_sound.ensures.valid c.in_ok-entity.ensures.made)
    (c.push_reserved.ensures.items ∙ ap (λ xs. xs ++ c.in_ok-entity.delta ∷ []) c.reserve.ensures.items))
    ∙ ap (λ (r : Recording). Some (began r)) c.self.view_is

pub invariant_of-self : goal.invariant_of-self
invariant_of-self c =
    let w = c.self.inside.world in (same_ready w.room c.self.inside.deltas.items c.reserve.new.self.items w.world c.self.invariant.0 c.reserve.ensures.items, c.end.ensures w.world)
