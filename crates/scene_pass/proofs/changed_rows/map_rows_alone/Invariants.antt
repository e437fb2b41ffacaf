use Rattle.std.proofs.Common.{◌≡◌, ◌++◌, drop, map}
use Rattle.std.specs.List.{flat_map}
use Rattle.scene_pass.specs.Changes.{change_of, changes}
use Rattle.scene_pass.proofs.changed_rows.map_rows_alone.Given as goal

abbrev pub invariant-tables : goal.invariant-tables
invariant-tables l = l.made.items ++ map (change_of l.steps) (flat_map (λ t. t.now.rows) (drop l.table-index l.table-items)) ≡ changes l.world.world l.fn.filter l.steps
