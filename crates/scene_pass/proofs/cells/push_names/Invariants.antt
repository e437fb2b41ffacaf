use Rattle.std.proofs.Common.{◌≡◌, ◌++◌, Some}
use Rattle.std.specs.Prelude.{slice_get}
use Rattle.scene_kinds.specs.declared.cells.Row.{Row}
use Rattle.scene_pass.specs.Pass.{names_in}
use Rattle.scene_table.specs.Since.{is_since}
use Rattle.scene_pass.proofs.RowSteps.{names_from}
use Rattle.scene_pass.proofs.cells.push_names.Given as goal

abbrev pub invariant-cells : goal.invariant-cells
invariant-cells l =
    (row : Row) → slice_get l.table.rows l.at ≡ Some row → l.names.items ++ names_from (is_since l.since) l.entity l.number row.cells ≡ l.initial.names.items ++ names_in (is_since l.since) row
