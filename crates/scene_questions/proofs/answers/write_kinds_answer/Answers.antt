use Rattle.std.proofs.Common.{string_bytes}
use Rattle.scene_json_forms.proofs.ListsWritten.{accepted, as_text, chain}
use Rattle.scene_questions.proofs.AnswerTexts.{kinds_is}
use Rattle.scene_questions.proofs.answers.write_kinds_answer.Goals as goal

pub returns : goal.returns
returns c = accepted c.push_str-2.result _ _ _ c.push_str-2.ensures.bytes (λ last.
    as_text (string_bytes c.args.out.now) _ _ _ (kinds_is c.args.schema.now)
    (chain (string_bytes c.args.out.now) _ _ _ _ c.in_ok-push_str.ensures.bytes
    (chain (string_bytes c.push_str.new.self) _ _ _ _ c.in_ok-write_kinds.ensures last)))
