use Rattle.std.specs.Io.Buffered.{reader_remaining}
use Rattle.scene_interpreter.specs.Interpreter.{interpreter_of}
use Rattle.scene_shell.proofs.KeptLaws.{ends_ok, ends_stopped, ends_unsettled, led_may}
use Rattle.scene_shell.proofs.kept_shell.play_settled.Goals as goal

pub settle-requires : goal.settle-requires
settle-requires g c =
    led_may g.K.KeptWriter.meaning (record { style = c.args.style; first = interpreter_of c.args.interpreter.now; start = c.args.keeper.now; script = reader_remaining g.R.Read.remaining c.args.reader.now })
    g.row.K-Fault.Denot c.in_ok-played.played c.play_lines.new.keeper (reader_remaining g.R.Read.remaining c.play_lines.new.reader)
    c.play_lines.new.waiting c.in_ok-played.ensures

pub returns-in-Err : goal.returns-in-Err
returns-in-Err g c =
    ends_unsettled g.K.KeptWriter.meaning (record { style = c.args.style; first = interpreter_of c.args.interpreter.now; start = c.args.keeper.now; script = reader_remaining g.R.Read.remaining c.args.reader.now })
    c.in_ok-played.played c.in-Err.fault c.play_lines.new.keeper c.settle.new.keeper (reader_remaining g.R.Read.remaining c.play_lines.new.reader)
    c.play_lines.new.waiting c.in_ok-played.ensures c.in-Err.ensures.fails

pub returns-in-Ok-played : goal.returns-in-Ok-played
returns-in-Ok-played g c =
    ends_ok g.K.KeptWriter.meaning (record { style = c.args.style; first = interpreter_of c.args.interpreter.now; start = c.args.keeper.now; script = reader_remaining g.R.Read.remaining c.args.reader.now })
    g.row.K-Fault.Denot c.in-Ok-played.bad_lines c.play_lines.new.keeper c.settle.new.keeper (reader_remaining g.R.Read.remaining c.play_lines.new.reader)
    c.play_lines.new.waiting (rw c.in-Ok-played.is at c.in_ok-played.ensures) c.in-Ok.ensures.kept c.in-Ok.ensures.sent

pub returns : goal.returns
returns g c =
    ends_stopped g.K.KeptWriter.meaning (record { style = c.args.style; first = interpreter_of c.args.interpreter.now; start = c.args.keeper.now; script = reader_remaining g.R.Read.remaining c.args.reader.now })
    g.row.K-Fault.Denot c.in-Err-played.fault c.play_lines.new.keeper c.settle.new.keeper (reader_remaining g.R.Read.remaining c.play_lines.new.reader)
    c.play_lines.new.waiting (rw c.in-Err-played.is at c.in_ok-played.ensures) c.in-Ok.ensures.kept c.in-Ok.ensures.sent
