use Rattle.std.proofs.Common.{◌≡◌, ◌++◌, drop, string_bytes}
use Rattle.std.specs.Prelude.{false, Some, slice_get}
use Rattle.scene_kinds.specs.declared.cells.Row.{Row}
use Rattle.scene_print.specs.JsonShown.{cell_member}
use Rattle.scene_print.specs.JsonSteps.{left_text}
use Rattle.scene_print.proofs.json_rows.write_cells.Given as goal

abbrev pub invariant-cells : goal.invariant-cells
invariant-cells l = (row : Row) → slice_get l.table.rows l.at ≡ Some row
    → string_bytes l.out ++ left_text l.later (cell_member l.schema) (drop l.number row.cells)
    ≡ string_bytes l.initial.out ++ left_text false (cell_member l.schema) row.cells
