use Rattle.scene_pass.proofs.RowSteps.{taken_over}
use Rattle.scene_pass.proofs.row_copies.push_rows.Goals as goal

pub rows-preserved : goal.rows-preserved
rows-preserved c =
    taken_over c.args.table.now.rows c.rows.at c.in_ok-copy_row.field-0 c.rows.copies.items c.push.new.self.items _ c.in_ok-copy_row.ensures c.in_ok-push.ensures.items c.rows.invariant
