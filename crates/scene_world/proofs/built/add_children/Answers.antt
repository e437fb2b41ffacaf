use Rattle.std.proofs.Common.{refl, sym, ap, subst, ◌∙◌, arith, get_or}
use Rattle.scene_kinds.specs.declared.entity.Entity.{Entity}
use Rattle.scene_links.specs.Room.{CanRelink}
use Rattle.scene_links.specs.Forest.{joined_at}
use Rattle.std.proofs.lemmas.List.{get_or_default}
use Rattle.scene_world.proofs.BuiltLinks.{none_first, can_relink, one_more}
use Rattle.scene_world.proofs.built.add_children.Goals as goal

pub loop-child-init : goal.loop-child-init
loop-child-init c = record { at = refl; forest = sym (none_first c.args.links.now.forest c.args.parent c.args.list.now c.requires) }

pub relink-requires : goal.relink-requires
relink-requires c =
    let child : Entity = get_or c.args.list.now c.loop-child.child-index (record { index = 0; generation = 0 }) in
    subst (λ n. CanRelink c.loop-child.links.forest child c.args.parent n) (sym c.loop-child.invariant.at)
    (can_relink c.args.links.now.forest c.args.parent c.args.list.now c.requires c.loop-child.child-index child c.loop-child-test.true (get_or_default c.args.list.now c.loop-child.child-index (record { index = 0; generation = 0 }) child c.loop-child-test.true) _ c.loop-child.invariant.forest)

pub loop-child-preserved : goal.loop-child-preserved
loop-child-preserved c =
    let child : Entity = get_or c.args.list.now c.loop-child.child-index (record { index = 0; generation = 0 }) in
    record {
      at = omega arith;
      forest = one_more c.args.links.now.forest c.args.parent c.args.list.now c.requires c.loop-child.child-index child c.loop-child-test.true
          (get_or_default c.args.list.now c.loop-child.child-index (record { index = 0; generation = 0 }) child c.loop-child-test.true) c.loop-child.links.forest _ c.loop-child.invariant.forest
          (c.in_ok-relink.ensures.ok ∙ ap (joined_at c.loop-child.links.forest child c.args.parent) c.loop-child.invariant.at);
    }
