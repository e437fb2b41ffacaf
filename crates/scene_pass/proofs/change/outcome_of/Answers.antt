use Rattle.scene_pass.proofs.RowSteps.{ok_same}
use Rattle.scene_pass.proofs.LoneStep.{one_step}
use Rattle.scene_pass.proofs.WrittenValues.{row_apart}
use Rattle.scene_pass.proofs.change.outcome_of.Goals as goal

pub returns-in-len1 : goal.returns-in-len1
returns-in-len1 c = ok_same (λ o. o) _ _ _ c.lone_of.ensures (one_step c.args.steps.now _ c.args.row.now c.in-len1.len_at_least c.in-len1.len_below c.requires.ascending)

pub returns-in_default : goal.returns-in_default
returns-in_default c = ok_same (λ o. o) _ _ _ c.outcome.ensures (row_apart c.args.steps.now c.args.row.now c.requires.ascending)
