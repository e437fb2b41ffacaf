use Rattle.std.proofs.Common.{◌<◌}
use Rattle.std.specs.Io.Buffered.{reader_remaining}
use Rattle.scene_interpreter.specs.Interpreter.{interpreter_of}
use Rattle.scene_shell.specs.Waits.{HasCome, pending_of}
use Rattle.scene_shell.proofs.KeptLaws.{between}
use Rattle.scene_shell.proofs.kept_shell.play_lines.Given as goal

-- the first lines are answered and kept, and the next ones wait
abbrev pub invariant-lines : goal.invariant-lines
invariant-lines g l = record {
  come : HasCome g.K.KeptWriter.meaning
      (record { style = l.style; first = interpreter_of l.initial.interpreter; start = l.initial.keeper; script = reader_remaining g.R.Read.remaining l.initial.reader })
      (between l.keeper (reader_remaining g.R.Read.remaining l.reader) (pending_of (interpreter_of l.interpreter) l.waiting) l.bad_lines l.number);
  few : l.bad_lines < l.number;
}
