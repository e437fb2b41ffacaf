use Rattle.std.proofs.Common.{◌≡◌}
use Rattle.scene_table.specs.Columns.{out_of_column}
use Rattle.scene_table.proofs.ColumnLists.{mapped}
use Rattle.scene_table.proofs.columns.drop_cells.Given as goal

abbrev pub invariant-loop-column : goal.invariant-loop-column
invariant-loop-column l = l.columns ≡ mapped (out_of_column l.at) l.column-index l.initial.columns
