use Rattle.scene_model.proofs.ShiftBack.{shifted_rows_come_back}
use Rattle.scene_model.proofs.raw_laws.shifted_rows_come_back.Goals as goal

pub returns : goal.returns
returns c = shifted_rows_come_back
