use Rattle.scene_model.specs.World.{World}
use Rattle.scene_world.specs.Stored.{world_of}
use Rattle.scene_model.proofs.LinkKeeps.{unlinked_valid}
use Rattle.scene_world.proofs.world.World.remove_parent.Goals as goal

pub invariant_of-self-2 : goal.invariant_of-self-2
invariant_of-self-2 c =
    let w = c.self.inside in
    let old : World = world_of w.schema w.slots w.tick w.tables.tables w.links.forest w.resources in
    record {
      valid = unlinked_valid old c.args.child c.in_ok-_link._link c.unlink.new.self.forest c.self.invariant.valid c.in_ok-_link.ensures.answer;
      homes = c.self.invariant.homes;
    }
