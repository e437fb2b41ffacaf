use Rattle.scene_interpreter.specs.Interpreter.{interpreter_of}
use Rattle.scene_kept_lines.specs.declared.played_lines.PlayedLines.{PlayedLines}
use Rattle.scene_kept_lines.proofs.StoreLaws.{played_stopped}
use Rattle.scene_kept_lines.proofs.played_lines.play_from.Goals as goal

pub returns-in-Ok : goal.returns-in-Ok
returns-in-Ok g c = λ calls all starts. (record { start = _; skipped = _; rest = _; starts = starts }, c.in-Ok.ensures.good, c.in-Ok.ensures.played)

pub returns-in-Err : goal.returns-in-Err
returns-in-Err g c = λ calls all starts.
    played_stopped calls all _ _ _ starts {A = PlayedLines} (λ p. interpreter_of p.interpreter) (interpreter_of c.play_noted.new.interpreter) c.in-Err.fault c.behind.result
    c.in-Err.ensures.stopped c.behind.ensures
