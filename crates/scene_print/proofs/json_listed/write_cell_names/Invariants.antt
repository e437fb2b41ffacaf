use Rattle.std.proofs.Common.{◌≡◌, ◌++◌, drop, string_bytes}
use Rattle.std.specs.Prelude.{false}
use Rattle.scene_json_forms.specs.Printing.{rest_text}
use Rattle.scene_print.specs.JsonShown.{cell_name_json}
use Rattle.scene_print.proofs.json_listed.write_cell_names.Given as goal

abbrev pub invariant-cells : goal.invariant-cells
invariant-cells l = string_bytes l.out ++ rest_text l.later (cell_name_json l.schema) (drop l.cell-index l.cells)
    ≡ string_bytes l.initial.out ++ rest_text false (cell_name_json l.schema) l.cells
