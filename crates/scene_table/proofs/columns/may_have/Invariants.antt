use Rattle.std.proofs.Common.{◌≡◌, ℕ, false, take}
use Rattle.std.specs.Prelude.{slice_range}
use Rattle.std.specs.List.{list_any}
use Rattle.scene_table.specs.Columns.{ColumnState}
use Rattle.scene_table.specs.Since.{is_since}
use Rattle.scene_table.proofs.columns.may_have.Given as goal

abbrev pub invariant-loop-column : goal.invariant-loop-column
invariant-loop-column l = (from to : ℕ) → list_any (λ (x : ColumnState). list_any (is_since l.since) (slice_range x.cells from to)) (take l.column-index l.columns) ≡ false
