use Rattle.scene_model.proofs.CellBack.{cells_come_back}
use Rattle.scene_model.proofs.raw_laws.cells_come_back.Goals as goal

pub returns : goal.returns
returns c = cells_come_back
