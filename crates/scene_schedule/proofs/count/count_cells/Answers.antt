use Rattle.std.proofs.Common.{◌∙◌, ◌^◌, ◌-◌, ap, length}
use Rattle.std.specs.Prelude.{min}
use Rattle.scene_schedule.specs.Systems.{writes_of}
use Rattle.scene_schedule.proofs.Counts.{count_stopped}
use Rattle.scene_schedule.proofs.count.count_cells.Goals as goal

pub loop-changes-preserved : goal.loop-changes-preserved
loop-changes-preserved c =
    count_stopped writes_of c.args.rows.now c.loop-changes.changes-index c.changes-item.result _ c.loop-changes.count _ _ c.loop-changes-test.true c.changes-item.is c.loop-changes.invariant
    (c.count_rows.ensures ∙ ap (λ rows. min (length (writes_of rows)) (2 ^ 64 - 1)) c.as_slice.ensures) c.saturating_add-count.ensures
