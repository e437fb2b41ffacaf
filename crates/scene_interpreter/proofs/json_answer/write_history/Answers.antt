use Rattle.std.proofs.Common.{ap, sym, ◌∙◌, ◌++◌, string_bytes}
use Rattle.scene_interpreter.proofs.JsonLaws.{history_is}
use Rattle.scene_interpreter.proofs.json_answer.write_history.Goals as goal

pub returns : goal.returns
returns c = c.in_ok-write.ensures.bytes ∙ ap (λ t. string_bytes c.args.out.now ++ t) (sym (history_is c.args.count))
