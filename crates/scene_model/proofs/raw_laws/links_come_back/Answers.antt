use Rattle.scene_model.proofs.LinkBack.{links_come_back}
use Rattle.scene_model.proofs.raw_laws.links_come_back.Goals as goal

pub returns : goal.returns
returns c = links_come_back
