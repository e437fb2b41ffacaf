use Rattle.std.proofs.Common.{Bor}
use Rattle.scene_table.specs.Table.{TableState}
use Rattle.scene_schedule.proofs.QueuedRows.{table_despawned}
use Rattle.scene_schedule.proofs.queued.push_despawns.Goals as goal

pub tables-preserved : goal.tables-preserved
tables-preserved c =
    table_despawned (λ (t : Bor TableState). t.now.rows) c.tables.queue.commands _ c.args.kind c.args.tables.now c.tables.table-index c.table-item.result _ c.tables-test.true c.table-item.is
    c.in_ok-push_despawns_in.ensures.put c.tables.invariant
