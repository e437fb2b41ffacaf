use Rattle.std.proofs.Common.{◌≡◌, ◌++◌, drop}
use Rattle.std.specs.List.{flat_map}
use Rattle.scene_schedule.specs.Systems.{despawns}
use Rattle.scene_schedule.proofs.queued.push_despawns.Given as goal

abbrev pub invariant-tables : goal.invariant-tables
invariant-tables l =
    l.queue.commands ++ despawns l.kind (flat_map (λ t. t.now.rows) (drop l.table-index l.tables)) ≡ l.initial.queue.commands ++ despawns l.kind (flat_map (λ t. t.now.rows) l.tables)
