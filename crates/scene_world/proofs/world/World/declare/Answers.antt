use Rattle.std.proofs.Common.{string_bytes}
use Rattle.scene_model.specs.World.{World}
use Rattle.scene_world.specs.Stored.{world_of}
use Rattle.scene_world.proofs.FurtherKind.{valid_after}
use Rattle.scene_world.proofs.world.World.declare.Goals as goal

pub invariant_of-self-2 : goal.invariant_of-self-2
invariant_of-self-2 c =
    let w = c.self.inside in
    let old : World = world_of w.schema w.slots w.tick w.tables.tables w.links.forest w.resources in
    record {
      valid = valid_after old c.add.new.self (string_bytes c.args.name) c.args.shape c.in_ok-number.number c.in_ok-number.ensures c.len-kinds.ensures.sound c.self.invariant.valid;
      homes = c.self.invariant.homes;
    }
