use Rattle.std.proofs.Common.{string_bytes}
use Rattle.std.specs.Prelude.{codes}
use Rattle.serde_json.specs.Written.{compact_text}
use Rattle.scene_json_forms.proofs.ListsWritten.{accepted, chain}
use Rattle.scene_interpreter.specs.Answer.{said_of}
use Rattle.scene_interpreter.specs.JsonAnswer.{answer_json}
use Rattle.scene_interpreter.proofs.answer.LineAnswer.write_json.Goals as goal

pub returns : goal.returns
returns c = accepted c.push_str.result _ _ _ c.push_str.ensures.bytes (λ last. (
  c.as_str.result.now,
  chain (string_bytes c.args.out.now) (compact_text (answer_json c.args.schema.now c.as_str.result.now (said_of c.args.self.now))) (codes "\n")
      (string_bytes c.write_object.new.out) (string_bytes c.push_str.new.self) c.in_ok-write_object.ensures last,
))
