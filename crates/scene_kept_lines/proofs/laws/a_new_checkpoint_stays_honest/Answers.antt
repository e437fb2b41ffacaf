use Rattle.scene_kept_lines.proofs.StaysHonest.{checkpoint_stays_honest}
use Rattle.scene_kept_lines.proofs.laws.a_new_checkpoint_stays_honest.Goals as goal

pub returns : goal.returns
returns c = λ first all p text honest new same. checkpoint_stays_honest first all p text honest new same
