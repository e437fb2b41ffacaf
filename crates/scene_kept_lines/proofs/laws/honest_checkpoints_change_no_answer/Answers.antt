use Rattle.scene_kept_lines.proofs.Honest.{honest_alike}
use Rattle.scene_kept_lines.proofs.laws.honest_checkpoints_change_no_answer.Goals as goal

pub returns : goal.returns
returns c = λ first all start rest skipped starts honest. honest_alike first all start rest skipped starts honest
