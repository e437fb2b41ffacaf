use Rattle.std.proofs.Common.{option_map, string_bytes}
use Rattle.scene_json_forms.proofs.ListsWritten.{accepted, as_text, chain}
use Rattle.scene_questions.proofs.StepTexts.{step_is}
use Rattle.scene_questions.proofs.steps.write_step.Goals as goal

pub returns : goal.returns
returns c = accepted c.push_str.result _ _ _ c.push_str.ensures.bytes (λ last.
    as_text (string_bytes c.args.out.now) _ _ _ (step_is c.args.way (option_map (λ r. r.now) c.args.frame))
    (chain (string_bytes c.args.out.now) _ _ _ _ c.in_ok-write_way.ensures
    (chain (string_bytes c.write_way.new.out) _ _ _ _ c.in_ok-write_maybe_along.ensures last)))
