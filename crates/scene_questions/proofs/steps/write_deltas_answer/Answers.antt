use Rattle.std.proofs.Common.{option_map, string_bytes}
use Rattle.scene_json_forms.proofs.ListsWritten.{accepted, as_text, chain}
use Rattle.scene_questions.proofs.StepTexts.{deltas_is}
use Rattle.scene_questions.proofs.steps.write_deltas_answer.Goals as goal

pub returns : goal.returns
returns c = accepted c.push_str-2.result _ _ _ c.push_str-2.ensures.bytes (λ last.
    as_text (string_bytes c.args.out.now) _ _ _ (deltas_is (option_map (λ r. r.now) c.args.frame))
    (chain (string_bytes c.args.out.now) _ _ _ _ c.in_ok-push_str.ensures.bytes
    (chain (string_bytes c.push_str.new.self) _ _ _ _ c.in_ok-write_maybe_record.ensures last)))
