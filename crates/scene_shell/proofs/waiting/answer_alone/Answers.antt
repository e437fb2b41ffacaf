use Rattle.std.proofs.Common.{string_bytes}
use Rattle.scene_interpreter.specs.Interpreter.{interpreter_of}
use Rattle.scene_shell.proofs.SaidLaws.{json_said}
use Rattle.scene_shell.proofs.waiting.answer_alone.Goals as goal

pub returns-then-is_json-clause-answer : goal.returns-then-is_json-clause-answer
returns-then-is_json-clause-answer g c =
    json_said c.line_json.result c.args.is_json (string_bytes c.args.answer.now) (string_bytes c.line_json.new.out) (interpreter_of c.args.interpreter.now) (interpreter_of c.line_json.new.self)
    c.args.line.now c.if-is_json.true c.requires c.line_json.ensures.answer
