use Rattle.std.proofs.Common.{◌∙◌, ap, arith, drop, option_map, string_bytes, sym, take}
use Rattle.scene_json_forms.proofs.ListsWritten.{accepted, written}
use Rattle.scene_questions.specs.Steps.{records_of, step_head}
use Rattle.scene_questions.proofs.StepLists.{closed_part, past_end, past_part, within}
use Rattle.scene_questions.proofs.steps.write_step_heads.Goals.{else-steps-test, then-steps-test+in_default}
use Rattle.scene_questions.proofs.steps.write_step_heads.Goals as goal

pub steps-preserved : goal.steps-preserved
steps-preserved c =
    let rs = records_of c.args.side c.args.editor.now in
    let r = c.in-Some.record.now in
    written c.steps.later step_head (take c.args.to rs) c.steps.place r (string_bytes c.steps.out) (string_bytes c.write_comma.new.out)
    (string_bytes c.write_step_head.new.out) _ (within rs c.steps.place c.args.to r c.steps-test.true (sym c.in-Some.ensures)) c.steps.invariant
    c.in_ok-write_comma.ensures c.in_ok-write_step_head.ensures

pub returns : goal.returns
returns c =
    let rs = records_of c.args.side c.args.editor.now in
    let part = take c.args.to rs in
    accepted c.push_str-2.result _ _ _ c.push_str-2.ensures.bytes (λ last.
    closed_part c.steps.later step_head part (drop c.args.from part) c.steps.place (string_bytes c.args.out.now) (string_bytes c.push_str.new.self)
    (string_bytes c.steps.out) (string_bytes c.push_str-2.new.self)
    (elim c.steps-test.branch [
      | else-steps-test w ↦ past_part rs c.steps.place c.args.to (omega (arith, w.steps-test.false))
      | then-steps-test+in_default w ↦ past_end rs c.steps.place c.args.to (sym w.record_at.ensures ∙ ap (option_map (λ r. r.now)) w.in_default.is)
    ])
    c.steps.invariant c.in_ok-push_str.ensures.bytes last)
