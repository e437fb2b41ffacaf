use Rattle.std.proofs.Common.{refl, string_bytes}
use Rattle.scene_interpreter.specs.Interpreter.{interpreter_of}
use Rattle.scene_interpreter.specs.declared.answer.LineAnswer.TheVariants.{Text}
use Rattle.scene_c.proofs.RequestLaws.{question_told}
use Rattle.scene_c.proofs.requests.answer_alone.Goals as goal

pub returns-in-Ok-clause-answer : goal.returns-in-Ok-clause-answer
returns-in-Ok-clause-answer c =
    question_told (interpreter_of c.args.interpreter.now) (interpreter_of c.question_json.new.self) c.args.question (string_bytes c.new-text.result)
    (string_bytes c.question_json.new.out) _ (Text c.question_json.new.out) c.requires c.new-text.ensures.bytes c.in-Ok.ensures.answer refl
