use Rattle.std.proofs.Common.{◌≡◌, ◌++◌, drop, string_bytes}
use Rattle.std.specs.Prelude.{false}
use Rattle.scene_json_forms.specs.Printing.{rest_text}
use Rattle.scene_file_records.specs.Text.{kcell_text}
use Rattle.scene_file_records.proofs.write_parts.write_kcells.Given as goal

abbrev pub invariant-cells : goal.invariant-cells
invariant-cells l = string_bytes l.out ++ rest_text l.later kcell_text (drop l.kind-index l.cells)
    ≡ string_bytes l.initial.out ++ rest_text false kcell_text l.cells
