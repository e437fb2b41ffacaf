use Rattle.std.proofs.Common.{◌≡◌, ◌++◌, drop, string_bytes}
use Rattle.std.specs.Prelude.{false, Some, slice_get}
use Rattle.scene_json_forms.specs.Printing.{rest_text}
use Rattle.scene_kinds.specs.declared.cells.Row.{Row}
use Rattle.scene_json_forms.specs.Text.{cell_text}
use Rattle.scene_file.proofs.write_rows.write_cells.Given as goal

abbrev pub invariant-cells : goal.invariant-cells
invariant-cells l = (row : Row) → slice_get l.table.rows l.at ≡ Some row
    → string_bytes l.out ++ rest_text l.later (λ c. cell_text c.1) (drop l.number row.cells)
    ≡ string_bytes l.initial.out ++ rest_text false (λ c. cell_text c.1) row.cells
