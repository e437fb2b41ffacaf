use Rattle.scene_file.proofs.SavedBack.{world_loaded}
use Rattle.scene_file.proofs.saving.save.Goals as goal

pub returns-clause-loads : goal.returns-clause-loads
returns-clause-loads g c = world_loaded c.args.world.now.world c.tick-tick.ensures.valid
