use Rattle.std.proofs.Common.{◌≡◌, ◌≤◌, ◌<◌, ℕ, length, get_or}
use Rattle.scene_table.specs.Columns.{ColumnState, HasRoomAt, put_each}
use Rattle.scene_table.proofs.columns.put_cells.Given as goal

abbrev pub invariant-loop-cell : goal.invariant-loop-cell
invariant-loop-cell l = record {
  put : put_each l.at l.cells l.columns ≡ put_each l.at l.initial.cells l.initial.columns;
  count : length l.cells ≤ length l.columns;
  room : (k : ℕ) (d : ColumnState) → k < length l.cells → HasRoomAt l.at (get_or l.columns k d);
}

abbrev pub decreases-loop-cell : goal.decreases-loop-cell
decreases-loop-cell l = length l.cells
