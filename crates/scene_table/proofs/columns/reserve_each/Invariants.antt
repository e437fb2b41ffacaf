use Rattle.std.proofs.Common.{◌≡◌, ◌+◌, ◌≤◌, ◌<◌, ℕ, length, get_or}
use Rattle.std.specs.List.{AllZip}
use Rattle.scene_table.specs.Columns.{ColumnState, IsGrown}
use Rattle.scene_table.proofs.columns.reserve_each.Given as goal

abbrev pub invariant-loop-column : goal.invariant-loop-column
invariant-loop-column l = record {
  grown : AllZip IsGrown l.initial.columns l.columns;
  room : (k : ℕ) (d : ColumnState) → k < l.column-index → length (get_or l.columns k d).cells + l.additional ≤ (get_or l.columns k d).capacity;
  left : (k : ℕ) (d : ColumnState) → l.column-index ≤ k → get_or l.columns k d ≡ get_or l.initial.columns k d;
}
