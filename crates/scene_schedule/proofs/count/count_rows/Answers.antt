use Rattle.scene_schedule.specs.Systems.{writes_of_row}
use Rattle.scene_schedule.proofs.Counts.{count_more}
use Rattle.scene_schedule.proofs.count.count_rows.Goals as goal

pub loop-row-preserved : goal.loop-row-preserved
loop-row-preserved c =
    count_more writes_of_row c.args.rows.now c.loop-row.row-index c.row-item.result _ c.loop-row.count _ _ c.loop-row-test.true c.row-item.is c.loop-row.invariant
    c.count_row.ensures c.saturating_add-count.ensures
