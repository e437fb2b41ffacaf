use Rattle.std.proofs.Common.{◌≡◌, ◌++◌, ◌-◌, drop, string_bytes, take}
use Rattle.std.specs.Prelude.{false}
use Rattle.scene_json_forms.specs.Printing.{rest_text}
use Rattle.scene_questions.specs.Steps.{records_of, step_head}
use Rattle.scene_questions.proofs.steps.write_step_heads.Given as goal

abbrev pub invariant-steps : goal.invariant-steps
invariant-steps l = string_bytes l.out ++ rest_text l.later step_head (drop l.place (take l.to (records_of l.side l.editor)))
    ≡ string_bytes l.initial.out ++ rest_text false step_head (drop l.from (take l.to (records_of l.side l.editor)))

abbrev pub decreases-steps : goal.decreases-steps
decreases-steps l = l.to - l.place
