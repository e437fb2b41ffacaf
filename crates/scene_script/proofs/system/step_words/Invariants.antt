use Rattle.std.proofs.Common.{◌≡◌, ◌++◌, Ok, length}
use Rattle.scene_script.specs.Reading.{◌>>=◌}
use Rattle.scene_script.specs.Systems.{steps_said}
use Rattle.scene_script.proofs.system.step_words.Given as goal

abbrev pub invariant-words : goal.invariant-words
invariant-words l = (steps_said l.schema l.words >>= (λ ss. Ok (l.steps.items ++ ss))) ≡ steps_said l.schema l.fn.words

abbrev pub decreases-words : goal.decreases-words
decreases-words l = length l.words
