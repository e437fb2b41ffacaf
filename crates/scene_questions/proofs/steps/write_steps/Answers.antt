use Rattle.std.proofs.Common.{length, string_bytes}
use Rattle.std.specs.Prelude.{decimal}
use Rattle.scene_json_forms.proofs.ListsWritten.{accepted, as_text, chain, seen_as}
use Rattle.scene_questions.proofs.StepTexts.{steps_is}
use Rattle.scene_questions.specs.Steps.{records_of}
use Rattle.scene_questions.proofs.steps.write_steps.Goals as goal

pub returns : goal.returns
returns c =
    let rs = records_of c.args.side c.args.editor.now in
    accepted c.push_str-3.result _ _ _ c.push_str-3.ensures.bytes (λ last.
    as_text (string_bytes c.args.out.now) _ _ _ (steps_is rs c.args.page)
    (chain (string_bytes c.args.out.now) _ _ _ _ c.in_ok-push_str.ensures.bytes
    (chain (string_bytes c.push_str.new.self) (decimal (length rs)) _ (string_bytes c.write_count.new.out) _
    (seen_as decimal (string_bytes c.push_str.new.self) _ c.in_ok-write_count.ensures c.record_count.ensures)
    (chain (string_bytes c.write_count.new.out) _ _ _ _ c.in_ok-push_str-2.ensures.bytes
    (chain (string_bytes c.push_str-2.new.self) _ _ _ _ c.in_ok-write_step_page.ensures last)))))
