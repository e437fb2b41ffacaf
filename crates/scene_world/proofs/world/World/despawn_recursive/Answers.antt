use Rattle.std.proofs.Common.{◌≡◌, true, not, ap, sym, ◌∙◌}
use Rattle.std.specs.Prelude.{is_some}
use Rattle.scene_links.specs.Forest.{post}
use Rattle.scene_model.specs.World.{is_live}
use Rattle.scene_model.proofs.Outcomes.{not_ok}
use Rattle.scene_model.proofs.DespawnEach.{none_went, next_goes, all_went}
use Rattle.scene_world.proofs.Room.{wider_self, wider_wider}
use Rattle.scene_world.proofs.world.World.despawn_recursive.Goals as goal

pub loop-next-init : goal.loop-next-init
loop-next-init c =
    let live : is_live c.args.self.now.world c.args.entity ≡ true = ap is_some (sym c.home_of.ensures.home) ∙ c.is_none.ensures ∙ ap not c.if-is_none.false in (
      none_went c.args.self.now.world c.args.entity c.as_slice-next-items.result.now c.home_of.ensures.valid live (c.as_slice-next-items.ensures.value ∙ c.in_ok-order.ensures.value ∙ ap (λ f. post f c.args.entity) c.links.ensures),
      wider_self c.args.self.now.room,
    )

pub loop-next-preserved : goal.loop-next-preserved
loop-next-preserved c = (
  (next_goes c.args.self.now.world c.loop-next.self.world c.despawn.new.self.world c.as_slice-next-items.result.now c.loop-next.next-index _ c.despawn.result c.loop-next-test.true c.loop-next.invariant.0 c.despawn.ensures.answer).1,
  wider_wider c.args.self.now.room c.loop-next.self.room c.despawn.new.self.room c.loop-next.invariant.1 c.despawn.ensures.wide,
)

pub returns : goal.returns
returns c =
    let live : is_live c.args.self.now.world c.args.entity ≡ true = ap is_some (sym c.home_of.ensures.home) ∙ c.is_none.ensures ∙ ap not c.if-is_none.false in
    record {
      answer = all_went c.args.self.now.world c.loop-next.self.world c.args.entity c.as_slice-next-items.result.now c.loop-next.next-index live
          (c.as_slice-next-items.ensures.value ∙ c.in_ok-order.ensures.value ∙ ap (λ f. post f c.args.entity) c.links.ensures) c.loop-next-test.false c.loop-next.invariant.0;
      wide = c.loop-next.invariant.1;
    }

pub returns-in_err-despawn : goal.returns-in_err-despawn
returns-in_err-despawn c =
    absurd (not_ok _ _ (sym c.in_err-despawn.was ∙ (next_goes c.args.self.now.world c.loop-next.self.world c.despawn.new.self.world c.as_slice-next-items.result.now c.loop-next.next-index _ c.despawn.result c.loop-next-test.true c.loop-next.invariant.0 c.despawn.ensures.answer).0))
