use Rattle.std.proofs.Common.{IfOk, ap, subst, ◌∙◌}
use Rattle.std.specs.Prelude.{string_bytes}
use Rattle.scene_script.specs.Script.{line_in}
use Rattle.scene_interpreter.specs.Interpreter.{reached}
use Rattle.scene_interpreter.specs.JsonLine.{IsSaidAsJson}
use Rattle.scene_interpreter.proofs.interpreter.Interpreter.line_json.Goals as goal

pub returns-clause-answer : goal.returns-clause-answer
returns-clause-answer g c =
    let by = reached g.O.SessionOwner.state g.O.ScriptOwner.most in
    subst (λ said. IfOk c.said_json.result (λ bad. IsSaidAsJson (string_bytes c.args.out.now) (string_bytes c.said_json.new.out) (by c.args.self.now)
    (by c.said_json.new.self) said bad)) (c.in-Ok.ensures ∙ ap (λ kinds. line_in kinds c.args.bytes.now) c.schema.ensures) c.said_json.ensures.answer
