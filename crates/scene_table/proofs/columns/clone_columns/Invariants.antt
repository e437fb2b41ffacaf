use Rattle.std.proofs.Common.{◌<◌, ◌≤◌, ℕ, length, get_or, take}
use Rattle.std.specs.List.{AllZip}
use Rattle.scene_table.specs.Columns.{ColumnState, IsSameColumn}
use Rattle.scene_table.proofs.columns.clone_columns.Given as goal

abbrev pub invariant-loop-column : goal.invariant-loop-column
invariant-loop-column l = record {
  same : AllZip IsSameColumn (take l.column-index l.columns) l.copies.items;
  fits : (k : ℕ) (d : ColumnState) → k < length l.copies.items → length (get_or l.copies.items k d).cells ≤ (get_or l.copies.items k d).capacity;
}
