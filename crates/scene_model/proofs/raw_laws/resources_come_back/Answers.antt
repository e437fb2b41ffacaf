use Rattle.scene_model.proofs.ResourceBack.{resources_come_back, ticks_come_back}
use Rattle.scene_model.proofs.raw_laws.resources_come_back.Goals as goal

pub returns : goal.returns
returns c = record { resources = resources_come_back; ticks = ticks_come_back }
