use Rattle.std.proofs.Common.{arith}
use Rattle.scene_pass.proofs.RowSteps.{read_of, row_at}
use Rattle.scene_schedule.proofs.QueuedRows.{row_parented}
use Rattle.scene_kinds.specs.declared.cells.Row.{Row}
use Rattle.scene_schedule.proofs.queued.push_children_in.Goals as goal

pub rows-preserved : goal.rows-preserved
rows-preserved c =
    let rows = c.args.table.now.rows in
    let r = row_at rows c.rows.at (omega (arith, c.rows-test.true, c.len-at-end.ensures.count)) in
    row_parented c.rows.queue.commands _ c.args.cells.now rows c.rows.at r.0 c.entity_at.result _ r.1 (read_of (λ (row : Row). row.entity) rows c.rows.at r.0 c.entity_at.result r.1 c.entity_at.ensures)
    c.in_ok-push_child.ensures.put c.rows.invariant
