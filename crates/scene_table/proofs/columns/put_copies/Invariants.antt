use Rattle.std.proofs.Common.{◌≡◌, ◌≤◌, ◌<◌, ℕ, false, length, get_or}
use Rattle.scene_table.specs.Columns.{ColumnState, HasRoomAt, put_each}
use Rattle.scene_table.specs.Plain.{has_text}
use Rattle.scene_table.proofs.columns.put_copies.Given as goal

abbrev pub invariant-back : goal.invariant-back
invariant-back l = record {
  plain : has_text l.left ≡ false;
  put : put_each l.at l.left l.columns ≡ put_each l.at l.cells l.initial.columns;
  count : length l.left ≤ length l.columns;
  room : (k : ℕ) (d : ColumnState) → k < length l.left → HasRoomAt l.at (get_or l.columns k d);
}

abbrev pub decreases-back : goal.decreases-back
decreases-back l = length l.left
