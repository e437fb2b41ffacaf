use Rattle.std.proofs.Common.{◌≡◌, ◌++◌, drop}
use Rattle.scene_queue.specs.Queue.{spawns}
use Rattle.scene_schedule.specs.Systems.{children_of_rows}
use Rattle.scene_schedule.proofs.queued.push_children_in.Given as goal

abbrev pub invariant-rows : goal.invariant-rows
invariant-rows l =
    l.queue.commands ++ children_of_rows (spawns l.queue.commands) l.cells (drop l.at l.table.rows)
    ≡ l.initial.queue.commands ++ children_of_rows (spawns l.initial.queue.commands) l.cells l.table.rows
