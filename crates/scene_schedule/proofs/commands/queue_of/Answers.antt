use Rattle.std.proofs.Common.{arith}
use Rattle.scene_schedule.proofs.QueueWalks.{commands_step}
use Rattle.scene_schedule.proofs.commands.queue_of.Goals as goal

pub steps-preserved : goal.steps-preserved
steps-preserved c =
    commands_step c.args.world.now.world c.steps.queue.commands _ c.args.steps.now c.args.changes.now c.steps.at c.index-steps-at.result _ (omega (arith, c.steps-test.true)) c.index-steps-at.is
    c.in_ok-push_step.ensures.put c.steps.invariant
