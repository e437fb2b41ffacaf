use Rattle.scene_schedule.proofs.SystemsInTurn.{systems_see}
use Rattle.scene_schedule.proofs.laws.systems_see_the_opening_world.Goals as goal

pub returns : goal.returns
returns c = systems_see
