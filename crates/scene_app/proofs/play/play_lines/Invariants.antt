use Rattle.std.proofs.Common.{◌≡◌, ◌++◌, ◌+◌, ◌<◌, ◌≤◌, length, string_bytes}
use Rattle.std.specs.Str.Lines.{lines}
use Rattle.scene_interpreter.specs.Interpreter.{reached}
use Rattle.scene_interpreter.specs.Printed.{printed_from}
use Rattle.scene_app.specs.Reports.{no_bad_lines}
use Rattle.scene_app.specs.Steps.{noted}
use Rattle.scene_app.proofs.play.play_lines.Given as goal

-- what the lines so far printed and what the others will are what all of them print
abbrev pub invariant-lines : goal.invariant-lines
invariant-lines g l = record {
  text : string_bytes l.out ++ (printed_from l.number (reached g.O.SessionOwner.state g.O.ScriptOwner.most l.interpreter) (lines l.rest)).text ≡ string_bytes l.initial.out ++ (printed_from 1 (reached g.O.SessionOwner.state g.O.ScriptOwner.most l.initial.interpreter) (lines l.script)).text;
  bad : noted l.reports (printed_from l.number (reached g.O.SessionOwner.state g.O.ScriptOwner.most l.interpreter) (lines l.rest)).bad ≡ noted no_bad_lines (printed_from 1 (reached g.O.SessionOwner.state g.O.ScriptOwner.most l.initial.interpreter) (lines l.script)).bad;
  owner : (printed_from l.number (reached g.O.SessionOwner.state g.O.ScriptOwner.most l.interpreter) (lines l.rest)).owner ≡ (printed_from 1 (reached g.O.SessionOwner.state g.O.ScriptOwner.most l.initial.interpreter) (lines l.script)).owner;
  few : l.reports.count < l.number;
  room : l.number + length l.rest ≤ 1 + length l.script;
}

abbrev pub decreases-lines : goal.decreases-lines
decreases-lines g l = length l.rest
