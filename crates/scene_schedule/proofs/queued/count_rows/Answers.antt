use Rattle.std.proofs.Common.{◌+◌, Bor, ap, ◌∙◌}
use Rattle.scene_table.specs.Table.{TableState}
use Rattle.scene_schedule.proofs.QueuedRows.{more_rows}
use Rattle.scene_schedule.proofs.queued.count_rows.Goals as goal

pub tables-preserved : goal.tables-preserved
tables-preserved c =
    more_rows (λ (t : Bor TableState). t.now.rows) c.args.tables.now c.tables.table-index c.table-item.result c.tables.count _ _ c.tables-test.true c.table-item.is
    (c.in_ok-count.ensures.1 ∙ ap (λ n. c.tables.count + n) c.len.ensures.count) c.tables.invariant
