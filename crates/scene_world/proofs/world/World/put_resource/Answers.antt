use Rattle.std.proofs.Common.{◌∙◌, sym, subst}
use Rattle.scene_resources.specs.Resources.{NamedCells}
use Rattle.scene_model.specs.World.{World}
use Rattle.scene_model.specs.Commands.{with_resources}
use Rattle.scene_world.specs.Stored.{world_of}
use Rattle.scene_model.specs.Valid.{IsValid}
use Rattle.scene_model.proofs.ResourceKeeps.{put_valid}
use Rattle.scene_world.proofs.world.World.put_resource.Goals as goal

pub invariant_of-self-2 : goal.invariant_of-self-2
invariant_of-self-2 c =
    let w = c.self.inside in
    let old : World = world_of w.schema w.slots w.tick w.tables.tables w.links.forest w.resources in
    record {
      valid = subst (λ (r : NamedCells). IsValid (with_resources old r)) (sym c.in_ok-_old.ensures.done) (put_valid old c.args.name.now c.args.value c.self.invariant.valid (sym c.good_name.ensures ∙ c.if-not-good_name.false) c.in_ok-_old.ensures.in_range);
      homes = c.self.invariant.homes;
    }
