use Rattle.scene_model.specs.World.{World}
use Rattle.scene_world.specs.Stored.{world_of}
use Rattle.scene_model.proofs.ResourceKeeps.{taken_valid}
use Rattle.scene_world.proofs.world.World.remove_resource.Goals as goal

pub invariant_of-self-2 : goal.invariant_of-self-2
invariant_of-self-2 c =
    let w = c.self.inside in
    let old : World = world_of w.schema w.slots w.tick w.tables.tables w.links.forest w.resources in
    record {
      valid = taken_valid old c.args.name.now c.in_ok-_cell._cell c.take.new.self.cells c.self.invariant.valid c.in_ok-_cell.ensures.cells;
      homes = c.self.invariant.homes;
    }
