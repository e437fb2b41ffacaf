use Rattle.std.proofs.Common.{◌∙◌, sym}
use Rattle.std.specs.Prelude.{string_bytes}
use Rattle.scene_interpreter.specs.Interpreter.{reached}
use Rattle.scene_interpreter.proofs.JsonLines.{asked_answer, asked_halted, played_answer}
use Rattle.scene_interpreter.proofs.interpreter.Interpreter.said_json.Goals as goal

pub returns-in-Some-clause-answer : goal.returns-in-Some-clause-answer
returns-in-Some-clause-answer g c =
    let by = reached g.O.SessionOwner.state g.O.ScriptOwner.most in
    asked_answer (by c.args.self.now) (by c.show_json.new.self) c.args.said (string_bytes c.args.out.now) (string_bytes c.show_json.new.out)
    c.in-Some.asked c.show_json.result (sym c.asked_by.ensures ∙ c.in-Some.is)
    c.show_json.ensures.bad c.show_json.ensures.begun c.show_json.ensures.text

pub returns-in-Some-clause-halted : goal.returns-in-Some-clause-halted
returns-in-Some-clause-halted g c =
    let by = reached g.O.SessionOwner.state g.O.ScriptOwner.most in
    asked_halted (by c.args.self.now) (by c.show_json.new.self) c.args.said c.in-Some.asked c.show_json.result
    (sym c.asked_by.ensures ∙ c.in-Some.is) c.show_json.ensures.halted
