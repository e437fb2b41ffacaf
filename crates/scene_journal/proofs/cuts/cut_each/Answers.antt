use Rattle.std.proofs.Common.{Some, [], ◌∷◌, ◌++◌, ap, subst, sym, ◌∙◌}
use Rattle.scene_world.specs.Room.{Holds}
use Rattle.scene_deltas.specs.Ready.{AreReady}
use Rattle.scene_deltas.specs.Deltas.{back_all}
use Rattle.scene_journal.proofs.CutRows.{all_cut, childless_next, next_cut}
use Rattle.scene_journal.proofs.cuts.cut_each.Goals as goal

pub cut_with_delta-requires-clause-childless : goal.cut_with_delta-requires-clause-childless
cut_with_delta-requires-clause-childless c =
    childless_next c.args.world.now.room c.args.world.now.world c.args.order.now c.loop-entity.entity-index c.loop-entity.world.world c.loop-entity.deltas.items
    (record { index = 0; generation = 0 }) c.loop-entity-test.true c.loop-entity.invariant.0

pub loop-entity-preserved : goal.loop-entity-preserved
loop-entity-preserved c = (
  next_cut c.args.world.now.room c.args.world.now.world c.args.order.now c.loop-entity.entity-index c.loop-entity.world.world c.loop-entity.deltas.items _ c.loop-entity-test.true
      c.loop-entity.invariant.0 (Some c.in-Ok.delta) c.cut_with_delta.new.world.world c.push_reserved.new.self.items c.is_sound.ensures.valid
      (subst (λ r. Holds r c.loop-entity.world.world) c.loop-entity.invariant.1 c.is_sound.ensures.held) c.in-Ok.ensures.delta c.in-Ok.ensures.made
      (c.push_reserved.ensures.items ∙ ap (λ xs. xs ++ c.in-Ok.delta ∷ []) c.in-Ok.ensures.items),
  c.in-Ok.ensures.same ∙ c.loop-entity.invariant.1,
)

pub take_all_back-requires : goal.take_all_back-requires
take_all_back-requires c =
    subst (λ w. AreReady c.cut_with_delta.new.world.room c.cut_with_delta.new.deltas.items w) (sym c.in-Err.ensures.back)
    (subst (λ r. AreReady r c.cut_with_delta.new.deltas.items c.loop-entity.world.world) (sym (c.in-Err.ensures.same ∙ c.loop-entity.invariant.1))
    (subst (λ ds. AreReady c.args.world.now.room ds c.loop-entity.world.world) (sym c.in-Err.ensures.items) c.loop-entity.invariant.0.ready))

pub returns-in-Err-clause-back : goal.returns-in-Err-clause-back
returns-in-Err-clause-back c =
    c.take_all_back.ensures.world ∙ ap (back_all c.cut_with_delta.new.deltas.items) c.in-Err.ensures.back ∙ ap (λ ds. back_all ds c.loop-entity.world.world) c.in-Err.ensures.items ∙ c.loop-entity.invariant.0.back

pub returns-clause-made : goal.returns-clause-made
returns-clause-made c =
    (all_cut c.args.world.now.room c.args.world.now.world c.args.order.now c.loop-entity.entity-index c.loop-entity.world.world c.loop-entity.deltas.items
    c.loop-entity-test.false c.loop-entity.invariant.0).0

pub returns-clause-noted : goal.returns-clause-noted
returns-clause-noted c =
    (all_cut c.args.world.now.room c.args.world.now.world c.args.order.now c.loop-entity.entity-index c.loop-entity.world.world c.loop-entity.deltas.items
    c.loop-entity-test.false c.loop-entity.invariant.0).1

pub returns-clause-ready : goal.returns-clause-ready
returns-clause-ready c =
    subst (λ r. AreReady r c.loop-entity.deltas.items c.loop-entity.world.world) (sym c.loop-entity.invariant.1) c.loop-entity.invariant.0.ready

pub returns-clause-opening : goal.returns-clause-opening
returns-clause-opening c = c.loop-entity.invariant.0.back
