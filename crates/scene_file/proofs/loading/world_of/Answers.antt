use Rattle.scene_validate.specs.Seen.{seen}
use Rattle.scene_file.proofs.TextFaults.{world_made}
use Rattle.scene_file.proofs.loading.world_of.Goals as goal

pub returns-in-Ok : goal.returns-in-Ok
returns-in-Ok c = world_made (seen c.args.parts) c.in-Ok.world.world c.in-Ok.ensures
