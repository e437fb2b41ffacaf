use Rattle.scene_answers.proofs.Apart.{asked_apart}
use Rattle.scene_answers.proofs.laws.history_apart_changes_no_request.Goals as goal

pub returns-clause-reply : goal.returns-clause-reply
returns-clause-reply c = λ p q asked same. asked_apart p q asked same
