use Rattle.std.proofs.Common.{◌≡◌, length}
use denote.Text.{Utf8}
use denote.Shadow.{shadow}
use Rattle.scene_script.specs.Words.{without_spaces}
use Rattle.scene_script.proofs.word.without_spaces.Given as goal

abbrev pub invariant-spaces : goal.invariant-spaces
invariant-spaces l = shadow (Utf8 l.rest) × (without_spaces l.rest ≡ without_spaces l.text)

abbrev pub decreases-spaces : goal.decreases-spaces
decreases-spaces l = length l.rest
