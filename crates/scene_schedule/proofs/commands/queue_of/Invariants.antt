use Rattle.std.proofs.Common.{◌≡◌, ◌++◌, drop}
use Rattle.scene_queue.specs.Queue.{spawns}
use Rattle.scene_schedule.specs.AtOnce.{commands_after}
use Rattle.scene_schedule.proofs.commands.queue_of.Given as goal

abbrev pub invariant-steps : goal.invariant-steps
invariant-steps l =
    l.queue.commands ++ commands_after l.world.world (spawns l.queue.commands) (drop l.at l.steps) l.changes ≡ commands_after l.world.world 0 l.steps l.changes
