use Rattle.std.proofs.Common.{◌≡◌, take}
use Rattle.std.specs.Prelude.{vec_len, vec_capacity}
use Rattle.scene_table.specs.Columns.{out_of_column, AreCellsAt}
use Rattle.scene_table.proofs.ColumnLists.{mapped}
use Rattle.scene_table.proofs.columns.take_cells.Given as goal

abbrev pub invariant-loop-column : goal.invariant-loop-column
invariant-loop-column l = record {
  left : l.columns ≡ mapped (out_of_column l.at) l.column-index l.initial.columns;
  cells : AreCellsAt (take l.column-index l.initial.columns) l.at l.cells.items;
  count : vec_len l.cells ≡ l.column-index;
  room : vec_capacity l.cells ≡ vec_capacity l.initial.cells;
}
