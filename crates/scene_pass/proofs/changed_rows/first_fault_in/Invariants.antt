use Rattle.std.proofs.Common.{◌≡◌, drop, map}
use Rattle.scene_pass.specs.Changes.{change_of, first_fault}
use Rattle.scene_pass.proofs.changed_rows.first_fault_in.Given as goal

-- the rows so far fit
abbrev pub invariant-rows : goal.invariant-rows
invariant-rows l = first_fault (map (change_of l.steps) (drop l.at l.table.rows)) ≡ first_fault (map (change_of l.steps) l.table.rows)
