use Rattle.scene_pass.specs.Changes.{change_of}
use Rattle.scene_pass.proofs.ChangedRows.{change_pushed}
use Rattle.scene_pass.proofs.changed_rows.push_changes.Goals as goal

pub rows-preserved : goal.rows-preserved
rows-preserved c =
    change_pushed (change_of c.args.steps.now) c.args.table.now.rows c.rows.at c.new-row.result c.in_ok-change.field-0 c.rows.made.items c.push.new.self.items _ c.new-row.ensures c.in_ok-change.ensures c.in_ok-push.ensures.items c.rows.invariant
