use Rattle.std.proofs.Common.{◌≡◌, ◌++◌, Ok, length}
use Rattle.scene_script.specs.Reading.{◌>>=◌}
use Rattle.scene_script.specs.Cells.{cells_behind, cells_said}
use Rattle.scene_script.proofs.cell.cell_words.Given as goal

abbrev pub invariant-words : goal.invariant-words
invariant-words l = (cells_behind l.schema l.behind_text l.words >>= (λ cs. Ok (l.cells.items ++ cs))) ≡ cells_said l.schema l.fn.words

abbrev pub decreases-words : goal.decreases-words
decreases-words l = length l.words
