use Rattle.std.proofs.Common.{ap, length}
use Rattle.scene_queue.specs.Queue.{QueueState}
use Rattle.scene_schedule.proofs.Counts.{count_more}
use Rattle.scene_schedule.proofs.count.count_commands.Goals as goal

pub loop-queue-preserved : goal.loop-queue-preserved
loop-queue-preserved c =
    count_more (λ (q : QueueState). q.commands) c.args.queues.now c.loop-queue.queue-index c.queue-item.result _ c.loop-queue.count _ _ c.loop-queue-test.true c.queue-item.is c.loop-queue.invariant
    (ap length c.commands.ensures) c.saturating_add-count.ensures
