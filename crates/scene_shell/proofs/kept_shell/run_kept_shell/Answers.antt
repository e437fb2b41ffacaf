use Rattle.std.specs.Io.Buffered.{reader_remaining}
use Rattle.scene_interpreter.specs.Interpreter.{interpreter_of}
use Rattle.scene_shell.proofs.KeptLaws.{ends_from}
use Rattle.scene_shell.proofs.kept_shell.run_kept_shell.Goals as goal

pub returns : goal.returns
returns g c =
    ends_from g.K.KeptWriter.meaning
    (record { style = c.args.style; first = interpreter_of c.args.interpreter.now; start = c.begin.new.self; script = reader_remaining g.R.Read.remaining c.args.reader.now })
    c.args.keeper.now c.play_settled.new.keeper c.begin.ensures.kept c.begin.ensures.written
    (reader_remaining g.R.Read.remaining c.play_settled.new.reader) c.play_settled.result c.play_settled.ensures
