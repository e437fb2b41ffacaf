use Rattle.std.proofs.Common.{◌≡◌, ◌≤◌, ◌<◌, ℕ, List, length, get_or, take}
use Rattle.scene_kinds.specs.declared.cell.Cell.{Cell}
use Rattle.scene_table.specs.Columns.{ColumnState, HasRoomAt, out_of_column, AreCellsAt, put_each}
use Rattle.scene_table.proofs.ColumnLists.{mapped}
use Rattle.scene_table.proofs.columns.move_cells.Given as goal

abbrev pub invariant-loop-i : goal.invariant-loop-i
invariant-loop-i l = record {
  left : l.source ≡ mapped (out_of_column l.at) l.i l.initial.source;
  put : (cells : List (ℕ × Cell)) → AreCellsAt l.initial.source l.at cells → l.target ≡ put_each l.to (take l.i cells) l.initial.target;
  room : (k : ℕ) (d : ColumnState) → l.i ≤ k → k < length l.initial.target → HasRoomAt l.to (get_or l.target k d);
}
