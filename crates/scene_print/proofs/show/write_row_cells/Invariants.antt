use Rattle.std.proofs.Common.{◌≡◌, ◌++◌, drop, string_bytes, Some}
use Rattle.std.specs.Prelude.{slice_get}
use Rattle.scene_kinds.specs.declared.cells.Row.{Row}
use Rattle.scene_print.specs.Printed.{cells_text}
use Rattle.scene_print.proofs.show.write_row_cells.Given as goal

abbrev pub invariant-cells : goal.invariant-cells
invariant-cells l =
    (row : Row) → slice_get l.table.rows l.at ≡ Some row → string_bytes l.out ++ cells_text l.kinds (drop l.number row.cells) ≡ string_bytes l.initial.out ++ cells_text l.kinds row.cells
