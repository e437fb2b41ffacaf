use Rattle.std.proofs.Common.{◌≡◌}
use Rattle.scene_session.proofs.call.shrink_each.Given as goal

abbrev pub invariant-loop-queue : goal.invariant-loop-queue
invariant-loop-queue l = l.queues ≡ l.initial.queues
