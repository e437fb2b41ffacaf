use Rattle.std.proofs.Common.{◌≡◌, ◌++◌, drop}
use Rattle.scene_pass.proofs.row_copies.push_rows.Given as goal

abbrev pub invariant-rows : goal.invariant-rows
invariant-rows l = l.copies.items ++ drop l.at l.table.rows ≡ l.initial.copies.items ++ l.table.rows
