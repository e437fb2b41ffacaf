use Rattle.scene_kept_lines.proofs.Apart.{lines_apart}
use Rattle.scene_kept_lines.proofs.laws.history_apart_changes_no_line.Goals as goal

pub returns : goal.returns
returns c = λ p q ls same. lines_apart p q ls same
