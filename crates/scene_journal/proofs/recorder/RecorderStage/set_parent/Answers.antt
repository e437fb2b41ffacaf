use Rattle.std.proofs.Common.{◌++◌, ◌∷◌, [], ap, ◌∙◌, Some}
use Rattle.scene_model.specs.Perform.{SetParent}
use Rattle.scene_deltas.specs.declared.delta.Delta.TheVariants.{Linked}
use Rattle.scene_journal.specs.Recorder.{Recording, began, began_with}
use Rattle.scene_deltas.proofs.Commands.{set_parent_leads}
use Rattle.scene_model.specs.World.{World}
use Rattle.scene_journal.proofs.LiveRuns.{kept_tables}
use Rattle.scene_journal.proofs.Recorded.{stays_ready, goes_ready, goes_back}
use Rattle.scene_journal.proofs.recorder.RecorderStage.set_parent.Goals as goal

pub invariant_of-self-in_err-set_parent : goal.invariant_of-self-in_err-set_parent
invariant_of-self-in_err-set_parent c = (
  stays_ready c.self.inside.world.room c.set_parent.new.self.room c.self.inside.deltas.items c.reserve.new.self.items c.self.inside.world.world c.set_parent.new.self.world
      c.self.invariant.0 c.set_parent.ensures.wide c.in_err-set_parent.ensures.answer.0 c.reserve.ensures.items,
  kept_tables c.self.inside.world.world c.set_parent.new.self.world c.self.inside.runs (ap (λ (u : World). u.tables) c.in_err-set_parent.ensures.answer.0) c.self.invariant.1,
)

pub invariant_of-self-2 : goal.invariant_of-self-2
invariant_of-self-2 c =
    let w = c.self.inside.world in
    let v = c.set_parent.new.self in (
      goes_ready w.room v.room c.self.inside.deltas.items c.push_reserved.new.self.items w.world v.world (SetParent c.args.child c.args.parent) (Some (Linked c.args.child c.link_of-before.result (Some c.last_link-after.result)))
          c.is_sound.ensures.valid (λ i. Linked c.args.child (c.link_of-before.ensures i) (Some (c.last_link-after.ensures i)) ∷ []) (set_parent_leads w.world v.world c.args.child c.args.parent c.is_sound.ensures.valid c.in_ok-set_parent.ensures.answer)
          (c.push_reserved.ensures.items ∙ ap (λ xs. xs ++ Linked c.args.child c.link_of-before.result (Some c.last_link-after.result) ∷ []) c.reserve.ensures.items) c.is_sound.ensures.held c.set_parent.ensures.wide c.self.invariant.0,
      kept_tables w.world v.world c.self.inside.runs (ap (λ (u : World). u.tables) (set_parent_leads w.world v.world c.args.child c.args.parent c.is_sound.ensures.valid c.in_ok-set_parent.ensures.answer).made) c.self.invariant.1,
    )

pub returns-clause-opening : goal.returns-clause-opening
returns-clause-opening c =
    let w = c.self.inside.world in
    let v = c.set_parent.new.self in
    ap (λ u. Some (began_with c.self.inside.tick_before u)) (goes_back w.room v.room c.self.inside.deltas.items c.push_reserved.new.self.items w.world v.world (SetParent c.args.child c.args.parent) (Some (Linked c.args.child c.link_of-before.result (Some c.last_link-after.result)))
    c.is_sound.ensures.valid (λ i. Linked c.args.child (c.link_of-before.ensures i) (Some (c.last_link-after.ensures i)) ∷ []) (set_parent_leads w.world v.world c.args.child c.args.parent c.is_sound.ensures.valid c.in_ok-set_parent.ensures.answer)
    (c.push_reserved.ensures.items ∙ ap (λ xs. xs ++ Linked c.args.child c.link_of-before.result (Some c.last_link-after.result) ∷ []) c.reserve.ensures.items))
    ∙ ap (λ (r : Recording). Some (began r)) c.self.view_is
