use Rattle.scene_model.proofs.CutBack.{cut_rows_come_back}
use Rattle.scene_model.proofs.raw_laws.cut_rows_come_back.Goals as goal

pub returns : goal.returns
returns c = cut_rows_come_back
