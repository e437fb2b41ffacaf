use Rattle.scene_model.proofs.PutBack.{rows_come_back}
use Rattle.scene_model.proofs.raw_laws.rows_come_back.Goals as goal

pub returns : goal.returns
returns c = rows_come_back
