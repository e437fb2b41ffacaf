use Rattle.std.proofs.Common.{◌≡◌, false, take}
use Rattle.std.specs.Prelude.{slice_range}
use Rattle.std.specs.List.{list_any}
use Rattle.scene_table.specs.Columns.{ColumnState}
use Rattle.scene_table.specs.Since.{is_since}
use Rattle.scene_table.proofs.columns.have_since.Given as goal

abbrev pub invariant-loop-column : goal.invariant-loop-column
invariant-loop-column l = list_any (λ (x : ColumnState). list_any (is_since l.since) (slice_range x.cells l.from l.to)) (take l.column-index l.columns) ≡ false
