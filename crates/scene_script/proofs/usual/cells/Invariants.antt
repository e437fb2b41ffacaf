use Rattle.std.proofs.Common.{◌≡◌, ◌++◌, Ok, length}
use Rattle.scene_script.specs.Reading.{◌>>=◌}
use Rattle.scene_script.proofs.UsualLaws.{each_said}
use Rattle.scene_script.proofs.usual.cells.Given as goal

abbrev pub invariant-words : goal.invariant-words
invariant-words l = (each_said l.schema l.words >>= (λ cs. Ok (l.cells.items ++ cs))) ≡ each_said l.schema l.fn.words

abbrev pub decreases-words : goal.decreases-words
decreases-words l = length l.words
