use Rattle.std.proofs.Common.{◌≡◌, ◌++◌, drop}
use Rattle.std.specs.List.{flat_map}
use Rattle.scene_pass.specs.Pass.{names_in, cells_where}
use Rattle.scene_table.specs.Since.{is_since}
use Rattle.scene_pass.proofs.cells.cells_since.Given as goal

abbrev pub invariant-tables : goal.invariant-tables
invariant-tables l = l.names.items ++ flat_map (names_in (is_since l.since)) (flat_map (λ t. t.now.rows) (drop l.table-index l.table-items)) ≡ cells_where (is_since l.since) l.world.world l.fn.filter
