use Rattle.std.proofs.Common.{◌∙◌, ◌++◌, ap, length, string_bytes, sym}
use Rattle.scene_questions.proofs.StepTexts.{head_bytes, step_head_is}
use Rattle.scene_questions.proofs.steps.write_step_head.Goals as goal

pub returns : goal.returns
returns c =
    let count = c.len.ensures ∙ ap length c.deltas.ensures in
    let old = string_bytes c.args.out.now in
    c.in_ok-write.ensures.bytes ∙ (λ i. old ++ head_bytes (c.tick_before.ensures i) (count i)) ∙ ap (λ t. old ++ t) (sym (step_head_is c.args.frame.now))
