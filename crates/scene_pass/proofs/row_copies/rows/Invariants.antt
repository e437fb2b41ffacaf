use Rattle.std.proofs.Common.{◌≡◌, ◌++◌, drop}
use Rattle.std.specs.List.{flat_map}
use Rattle.scene_pass.specs.Pass.{matching_rows}
use Rattle.scene_pass.proofs.row_copies.rows.Given as goal

abbrev pub invariant-tables : goal.invariant-tables
invariant-tables l = l.copies.items ++ flat_map (λ t. t.now.rows) (drop l.table-index l.table-items) ≡ matching_rows l.world.world l.fn.filter
