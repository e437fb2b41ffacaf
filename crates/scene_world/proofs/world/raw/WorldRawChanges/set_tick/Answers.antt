use Rattle.std.proofs.Common.{◌≡◌, true, sym, subst, refl}
use Rattle.scene_model.specs.World.{World}
use Rattle.scene_model.specs.Can.{can_set_tick}
use Rattle.scene_model.proofs.ResourceBack.{ticks_come_back}
use Rattle.scene_world.specs.Stored.{world_of}
use Rattle.scene_world.proofs.Room.{seen_world}
use Rattle.scene_world.proofs.world.raw.WorldRawChanges.set_tick.Goals as goal

pub invariant_of-self : goal.invariant_of-self
invariant_of-self c =
    let w = c.self.inside in
    let old : World = world_of w.schema w.slots w.tick w.tables.tables w.links.forest w.resources in
    record {
      valid = (ticks_come_back w.tick c.args.tick).keeps old c.self.invariant.valid (refl, subst (λ (v : World). can_set_tick v c.args.tick ≡ true) (sym (seen_world c.self.view_is)) c.requires);
      homes = c.self.invariant.homes;
    }
