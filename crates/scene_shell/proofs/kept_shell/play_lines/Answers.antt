use Rattle.std.proofs.Common.{◌≡◌, ◌<◌, ◌∙◌, ap, sym, refl, subst, arith, length}
use Rattle.std.proofs.lemmas.Bool.Decides.{nat_tests}
use Rattle.std.specs.Io.Buffered.{reader_remaining}
use Rattle.scene_interpreter.specs.Interpreter.{interpreter_of}
use Rattle.scene_shell.specs.Kept.{Beginning}
use Rattle.scene_shell.specs.Waits.{IsBad, IsPlayed, IsUnread, Standing, pending_of}
use Rattle.scene_shell.proofs.KeptLaws.{between, come_fails, come_may, come_stops, comes_first, comes_line, line_on, nothing_left, stops_none, too_long}
use Rattle.scene_shell.proofs.kept_shell.play_lines.Goals as goal

pub lines-init : goal.lines-init
lines-init g c = record {
  come = comes_first g.K.KeptWriter.meaning (record { style = c.args.style; first = interpreter_of c.args.interpreter.now; start = c.args.keeper.now; script = reader_remaining g.R.Read.remaining c.args.reader.now })
      c.args.waiting.now.due.items c.args.waiting.now.held.items c.args.waiting.now.answers.items
      c.requires.due c.requires.held c.requires.answers c.requires.begun;
  few = omega arith;
}

pub returns-in-Err : goal.returns-in-Err
returns-in-Err g c =
    let shell : Beginning g.row.K.Denot = record { style = c.args.style; first = interpreter_of c.args.interpreter.now; start = c.args.keeper.now; script = reader_remaining g.R.Read.remaining c.args.reader.now } in
    let here : Standing g.row.K.Denot = between c.lines.keeper (reader_remaining g.R.Read.remaining c.lines.reader) (pending_of (interpreter_of c.lines.interpreter) c.lines.waiting) c.lines.bad_lines c.lines.number in
    let more = reader_remaining g.R.Read.remaining c.read_line.new.reader in
    come_stops g.K.KeptWriter.meaning shell g.row.K-Fault.Denot c.in-Err.fault here more c.read_line.new.line.items c.lines.waiting
    c.lines.invariant.come refl refl c.in-Err.ensures.part c.in-Err.ensures.taken c.in-Err.ensures.fault

pub returns-then-is_empty : goal.returns-then-is_empty
returns-then-is_empty g c =
    let none : length c.read_line.new.line.items ≡ 0 =
    ap length (sym c.as_slice-read.ensures.value) ∙ (grind (arith, nat_tests, c.is_empty.ensures, c.if-is_empty.true)) in
    let shell : Beginning g.row.K.Denot = record { style = c.args.style; first = interpreter_of c.args.interpreter.now; start = c.args.keeper.now; script = reader_remaining g.R.Read.remaining c.args.reader.now } in
    let here : Standing g.row.K.Denot = between c.lines.keeper (reader_remaining g.R.Read.remaining c.lines.reader) (pending_of (interpreter_of c.lines.interpreter) c.lines.waiting) c.lines.bad_lines c.lines.number in
    let more = reader_remaining g.R.Read.remaining c.read_line.new.reader in
    nothing_left g.K.KeptWriter.meaning shell g.row.K-Fault.Denot here more c.read_line.new.line.items c.lines.waiting
    c.lines.invariant.come refl refl none c.in_default.ensures.line c.in_default.ensures.rest c.in_default.ensures.taken

pub returns-in-Err-play : goal.returns-in-Err-play
returns-in-Err-play g c =
    let shell : Beginning g.row.K.Denot = record { style = c.args.style; first = interpreter_of c.args.interpreter.now; start = c.args.keeper.now; script = reader_remaining g.R.Read.remaining c.args.reader.now } in
    let here : Standing g.row.K.Denot = between c.lines.keeper (reader_remaining g.R.Read.remaining c.lines.reader) (pending_of (interpreter_of c.lines.interpreter) c.lines.waiting) c.lines.bad_lines c.lines.number in
    let more = reader_remaining g.R.Read.remaining c.read_line.new.reader in
    come_stops g.K.KeptWriter.meaning shell g.row.K-Fault.Denot c.in-Err-play.fault here more c.read_line.new.line.items c.play.new.self
    c.lines.invariant.come (sym c.in-Err-play.ensures.due) c.in-Err-play.ensures.unsaid c.in_default.ensures.part c.in_default.ensures.taken
    (subst IsUnread (sym c.in-Err-play.ensures.fault) tt)

pub settle_where-requires : goal.settle_where-requires
settle_where-requires g c =
    let shell : Beginning g.row.K.Denot = record { style = c.args.style; first = interpreter_of c.args.interpreter.now; start = c.args.keeper.now; script = reader_remaining g.R.Read.remaining c.args.reader.now } in
    let here : Standing g.row.K.Denot = between c.lines.keeper (reader_remaining g.R.Read.remaining c.lines.reader) (pending_of (interpreter_of c.lines.interpreter) c.lines.waiting) c.lines.bad_lines c.lines.number in
    let line = c.read_line.new.line.items in
    let same : c.as_slice-read.result.now ≡ line = c.as_slice-read.ensures.value in
    let some : 0 < length line = subst (λ t. 0 < length t) same (grind (arith, nat_tests, c.is_empty.ensures, c.if-is_empty.false)) in
    let more = reader_remaining g.R.Read.remaining c.read_line.new.reader in
    let next = pending_of (interpreter_of c.play.new.interpreter) c.play.new.self in
    let come = comes_line g.K.KeptWriter.meaning shell here more next c.in-Ok.bad line c.lines.invariant.come c.in_default.ensures.line c.in_default.ensures.rest c.in_default.ensures.part some
    (subst (λ t. IsPlayed c.args.style t here.pending next) same c.in-Ok.ensures.played)
    (subst (λ t. IsBad t (interpreter_of c.lines.interpreter) c.in-Ok.bad) same c.in-Ok.ensures.bad) in
    come_may g.K.KeptWriter.meaning shell (line_on here more next c.in-Ok.bad) c.play.new.self.due.items refl come

pub returns-in-Err-settle_where : goal.returns-in-Err-settle_where
returns-in-Err-settle_where g c =
    let shell : Beginning g.row.K.Denot = record { style = c.args.style; first = interpreter_of c.args.interpreter.now; start = c.args.keeper.now; script = reader_remaining g.R.Read.remaining c.args.reader.now } in
    let here : Standing g.row.K.Denot = between c.lines.keeper (reader_remaining g.R.Read.remaining c.lines.reader) (pending_of (interpreter_of c.lines.interpreter) c.lines.waiting) c.lines.bad_lines c.lines.number in
    let line = c.read_line.new.line.items in
    let same : c.as_slice-read.result.now ≡ line = c.as_slice-read.ensures.value in
    let some : 0 < length line = subst (λ t. 0 < length t) same (grind (arith, nat_tests, c.is_empty.ensures, c.if-is_empty.false)) in
    let more = reader_remaining g.R.Read.remaining c.read_line.new.reader in
    let next = pending_of (interpreter_of c.play.new.interpreter) c.play.new.self in
    let come = comes_line g.K.KeptWriter.meaning shell here more next c.in-Ok.bad line c.lines.invariant.come c.in_default.ensures.line c.in_default.ensures.rest c.in_default.ensures.part some
    (subst (λ t. IsPlayed c.args.style t here.pending next) same c.in-Ok.ensures.played)
    (subst (λ t. IsBad t (interpreter_of c.lines.interpreter) c.in-Ok.bad) same c.in-Ok.ensures.bad) in
    come_fails g.K.KeptWriter.meaning shell c.in-Err-settle_where.fault (line_on here more next c.in-Ok.bad) c.settle_where.new.keeper c.play.new.self.due.items
    come stops_none refl c.in-Err-settle_where.ensures.fails

pub lines-preserved : goal.lines-preserved
lines-preserved g c =
    let shell : Beginning g.row.K.Denot = record { style = c.args.style; first = interpreter_of c.args.interpreter.now; start = c.args.keeper.now; script = reader_remaining g.R.Read.remaining c.args.reader.now } in
    let here : Standing g.row.K.Denot = between c.lines.keeper (reader_remaining g.R.Read.remaining c.lines.reader) (pending_of (interpreter_of c.lines.interpreter) c.lines.waiting) c.lines.bad_lines c.lines.number in
    let line = c.read_line.new.line.items in
    let same : c.as_slice-read.result.now ≡ line = c.as_slice-read.ensures.value in
    let some : 0 < length line = subst (λ t. 0 < length t) same (grind (arith, nat_tests, c.is_empty.ensures, c.if-is_empty.false)) in
    let more = reader_remaining g.R.Read.remaining c.read_line.new.reader in
    let next = pending_of (interpreter_of c.play.new.interpreter) c.play.new.self in
    let come = comes_line g.K.KeptWriter.meaning shell here more next c.in-Ok.bad line c.lines.invariant.come c.in_default.ensures.line c.in_default.ensures.rest c.in_default.ensures.part some
    (subst (λ t. IsPlayed c.args.style t here.pending next) same c.in-Ok.ensures.played)
    (subst (λ t. IsBad t (interpreter_of c.lines.interpreter) c.in-Ok.bad) same c.in-Ok.ensures.bad) in
    record {
      come = c.in-Ok-settle_where.ensures.come shell (line_on here more next c.in-Ok.bad) come;
      few = omega (arith, c.in-Ok.ensures.one, c.lines.invariant.few);
    }

pub returns : goal.returns
returns g c =
    let shell : Beginning g.row.K.Denot = record { style = c.args.style; first = interpreter_of c.args.interpreter.now; start = c.args.keeper.now; script = reader_remaining g.R.Read.remaining c.args.reader.now } in
    let here : Standing g.row.K.Denot = between c.lines.keeper (reader_remaining g.R.Read.remaining c.lines.reader) (pending_of (interpreter_of c.lines.interpreter) c.lines.waiting) c.lines.bad_lines c.lines.number in
    too_long g.K.KeptWriter.meaning shell g.row.K-Fault.Denot here c.lines.waiting c.lines.invariant.come refl refl (omega (arith, c.lines-test.false))
