use Rattle.std.proofs.Common.{◌≡◌, ◌<◌, ◌++◌, [], ◌∷◌, length, get_or, subst, ap, ◌∙◌, arith}
use Rattle.std.specs.List.{flat_map}
use Rattle.scene_queue.specs.Queue.{spawns}
use Rattle.scene_pass.specs.Pass.{matching_rows}
use Rattle.scene_schedule.specs.Systems.{commands_from}
use Rattle.scene_schedule.proofs.QueuedRows.{step_queued}
use Rattle.scene_schedule.proofs.queued.queued_by.Goals as goal

pub steps-preserved : goal.steps-preserved
steps-preserved c =
    let old = c.steps.queue.commands in
    let at = c.steps.at in
    let step = c.index-steps-at.result in
    step_queued old _ c.args.rule.now.steps (matching_rows c.args.world.now.world c.args.rule.now.filter) at step _
    (subst (λ ss. at < length ss) c.as_slice-steps.ensures (omega (arith, c.steps-test.true)))
    (subst (λ ss. step ≡ get_or ss at step) c.as_slice-steps.ensures c.index-steps-at.is)
    (c.in_ok-push_step.ensures.put ∙ ap (λ rows. old ++ commands_from (spawns old) (step ∷ []) rows) (ap (flat_map (λ t. t.now.rows)) c.as_slice.ensures.value ∙ c.in_ok-tables.ensures)) c.steps.invariant
