use Rattle.scene_kept_lines.proofs.StaysHonest.{lines_stay_honest, none_honest}
use Rattle.scene_kept_lines.proofs.laws.lines_without_checkpoints_stay_honest.Goals as goal

pub returns-clause-none : goal.returns-clause-none
returns-clause-none c = λ first. none_honest first

pub returns-clause-more : goal.returns-clause-more
returns-clause-more c = λ first all more honest none. lines_stay_honest first all more honest none
