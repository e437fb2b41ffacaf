use Rattle.std.proofs.Common.{◌≡◌}
use Rattle.scene_queue.proofs.queue.shrink_each.Given as goal

abbrev pub invariant-loop-command : goal.invariant-loop-command
invariant-loop-command l = l.commands ≡ l.initial.commands
