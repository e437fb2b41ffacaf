use Rattle.std.proofs.Common.{sym}
use Rattle.scene_pass.specs.Changes.{change_of}
use Rattle.scene_pass.proofs.ChangedRows.{fault_passed, fault_found}
use Rattle.scene_pass.proofs.changed_rows.first_fault_in.Goals as goal

pub rows-preserved : goal.rows-preserved
rows-preserved c =
    fault_passed (change_of c.args.steps.now) c.args.table.now.rows c.rows.at c.new-tested.result c.in_ok-made.made _ c.new-tested.ensures c.in_ok-made.ensures (sym c.in_default.ensures) c.rows.invariant

pub returns-in-Some : goal.returns-in-Some
returns-in-Some c =
    fault_found (change_of c.args.steps.now) c.args.table.now.rows c.rows.at c.new-tested.result c.in_ok-made.made c.in-Some.fault _ c.new-tested.ensures c.in_ok-made.ensures (sym c.in-Some.ensures) c.rows.invariant
