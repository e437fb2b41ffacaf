use Rattle.std.proofs.Common.{◌≡◌, ◌++◌, drop}
use Rattle.scene_queue.specs.Queue.{spawns}
use Rattle.scene_schedule.specs.AtOnce.{children_after}
use Rattle.scene_schedule.proofs.commands.push_children.Given as goal

abbrev pub invariant-changes : goal.invariant-changes
invariant-changes l =
    l.queue.commands ++ children_after (spawns l.queue.commands) l.cells (drop l.at l.changes)
    ≡ l.initial.queue.commands ++ children_after (spawns l.initial.queue.commands) l.cells l.changes
