use Rattle.std.proofs.Common.{◌∙◌, ap, arith, to_z, of_z, w64}
use Rattle.std.proofs.lemmas.Int.{to_z-of_z}
use Rattle.scene_model.specs.RunRaw.{CanPutRun, with_run}
use Rattle.scene_model.specs.World.{World}
use Rattle.scene_world.specs.Stored.{world_of}
use Rattle.scene_world.proofs.Room.{inside, seen_world}
use Rattle.scene_world.proofs.RunPut.{run_put}
use Rattle.scene_world.proofs.world.raw.WorldRawChanges.put_run.Goals as goal

pub invariant_of-self : goal.invariant_of-self
invariant_of-self g c =
    let w = c.self.inside in
    let old : World = world_of w.schema w.slots w.tick w.tables.tables w.links.forest w.resources in
    let can = inside c.self.view_is (λ v. CanPutRun v c.args.run.now c.args.turns c.args.changed.now) c.requires.can in
    record {
      valid = (run_put old c.put_run.new.self.tables c.args.run.now c.args.turns (to_z w64 (of_z w64 c.args.turns)) c.args.changed.now c.self.invariant.valid c.width-width.ensures.long can
          (to_z-of_z w64 c.args.turns c.ranges.turns) c.put_run.ensures.tables).valid;
      homes = omega (arith, c.put_run.ensures.homes, c.self.invariant.homes);
    }

pub returns-clause-world : goal.returns-clause-world
returns-clause-world g c =
    let w = c.self.inside in
    let old : World = world_of w.schema w.slots w.tick w.tables.tables w.links.forest w.resources in
    let can = inside c.self.view_is (λ v. CanPutRun v c.args.run.now c.args.turns c.args.changed.now) c.requires.can in
    (run_put old c.put_run.new.self.tables c.args.run.now c.args.turns (to_z w64 (of_z w64 c.args.turns)) c.args.changed.now c.self.invariant.valid c.width-width.ensures.long can
    (to_z-of_z w64 c.args.turns c.ranges.turns) c.put_run.ensures.tables).is
    ∙ ap (λ v. with_run v c.args.run.now c.args.turns c.args.changed.now) (seen_world c.self.view_is)
