use Rattle.std.proofs.Common.{◌≡◌, ◌++◌, drop, Some}
use Rattle.std.specs.Prelude.{slice_get}
use Rattle.scene_kinds.specs.declared.cells.Row.{Row}
use Rattle.scene_pass.proofs.row_copies.copy_row.Given as goal

abbrev pub invariant-cells : goal.invariant-cells
invariant-cells l = (row : Row) → slice_get l.table.rows l.at ≡ Some row → l.items.items ++ drop l.number row.cells ≡ row.cells
