use Rattle.std.proofs.Common.{◌++◌, ap, sym, ◌∙◌, arith, string_bytes}
use Rattle.std.specs.Str.Lines.{lines}
use Rattle.scene_interpreter.specs.Interpreter.{reached}
use Rattle.scene_interpreter.specs.Printed.{printed_from}
use Rattle.scene_app.specs.Steps.{noted}
use Rattle.scene_app.proofs.PlayLaws.{line_played}
use Rattle.scene_app.proofs.play.play_lines.Goals as goal

pub lines-preserved : goal.lines-preserved
lines-preserved g c =
    let before = reached g.O.SessionOwner.state g.O.ScriptOwner.most c.lines.interpreter in
    let old = string_bytes c.lines.out in
    let new = string_bytes c.play_line.new.out in
    let more = line_played before (reached g.O.SessionOwner.state g.O.ScriptOwner.most c.play_line.new.interpreter) c.lines.number c.first_line.result.0.now (lines c.first_line.result.1.now) old new c.lines.reports c.play_line.new.reports c.in_ok-play_line.ensures.played in
    let whole = sym c.first_line.ensures.first in
    record {
      text = more.0 ∙ ap (λ ls. old ++ (printed_from c.lines.number before ls).text) whole ∙ c.lines.invariant.text;
      bad = more.1 ∙ ap (λ ls. noted c.lines.reports (printed_from c.lines.number before ls).bad) whole ∙ c.lines.invariant.bad;
      owner = more.2 ∙ ap (λ ls. (printed_from c.lines.number before ls).owner) whole ∙ c.lines.invariant.owner;
      few = omega (arith, c.in_ok-play_line.ensures.few);
      room = omega arith;
    }
