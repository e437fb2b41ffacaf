use Rattle.std.proofs.Common.{◌≡◌, ◌++◌, drop}
use Rattle.std.specs.List.{flat_map}
use Rattle.scene_queue.specs.Queue.{spawns}
use Rattle.scene_schedule.specs.Systems.{children_of_rows}
use Rattle.scene_schedule.proofs.queued.push_children.Given as goal

abbrev pub invariant-tables : goal.invariant-tables
invariant-tables l =
    l.queue.commands ++ children_of_rows (spawns l.queue.commands) l.cells (flat_map (λ t. t.now.rows) (drop l.table-index l.tables))
    ≡ l.initial.queue.commands ++ children_of_rows (spawns l.initial.queue.commands) l.cells (flat_map (λ t. t.now.rows) l.tables)
