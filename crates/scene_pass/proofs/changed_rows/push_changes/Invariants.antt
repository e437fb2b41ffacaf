use Rattle.std.proofs.Common.{◌≡◌, ◌++◌, drop, map}
use Rattle.scene_pass.specs.Changes.{change_of}
use Rattle.scene_pass.proofs.changed_rows.push_changes.Given as goal

abbrev pub invariant-rows : goal.invariant-rows
invariant-rows l = l.made.items ++ map (change_of l.steps) (drop l.at l.table.rows) ≡ l.initial.made.items ++ map (change_of l.steps) l.table.rows
