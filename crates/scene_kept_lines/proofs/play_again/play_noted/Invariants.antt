use Rattle.std.proofs.Common.{◌+◌, ◌≤◌, length}
use Rattle.std.specs.Str.Lines.{lines}
use Rattle.scene_interpreter.specs.Interpreter.{interpreter_of}
use Rattle.scene_kept_lines.proofs.Played.{HasPlayed}
use Rattle.scene_kept_lines.proofs.play_again.play_noted.Given as goal

-- each line takes a byte at least
abbrev pub decreases-lines : goal.decreases-lines
decreases-lines g l = length l.rest

-- the lines before the rest are played
abbrev pub invariant-lines : goal.invariant-lines
invariant-lines g l = HasPlayed (interpreter_of l.initial.interpreter) (interpreter_of l.interpreter) (lines l.text) (lines l.rest) l.number × (l.number + length l.rest ≤ length l.text)
