use Rattle.std.proofs.Common.{◌∙◌, ap}
use Rattle.scene_model.specs.World.{World}
use Rattle.scene_world.specs.Homes.{home_of_index}
use Rattle.scene_world.specs.Stored.{world_of}
use Rattle.scene_world.proofs.Room.{seen_world}
use Rattle.scene_world.proofs.Homes.{each_home}
use Rattle.scene_world.proofs.world.World.homes.Goals as goal

pub returns-clause-each : goal.returns-clause-each
returns-clause-each c = λ index.
    let w = c.self.inside in
    let old : World = world_of w.schema w.slots w.tick w.tables.tables w.links.forest w.resources in
    each_home old c.homes-homes.result.now c.len.result index c.self.invariant.valid c.homes-homes.ensures.are c.len.ensures.count ∙ ap (λ (v : World). home_of_index v index) (seen_world c.self.view_is)
