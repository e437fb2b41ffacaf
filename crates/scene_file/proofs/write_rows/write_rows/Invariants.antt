use Rattle.std.proofs.Common.{◌≡◌, ◌++◌, drop, string_bytes}
use Rattle.std.specs.Prelude.{false}
use Rattle.scene_json_forms.specs.Printing.{rest_text}
use Rattle.scene_file.specs.Text.{row_text}
use Rattle.scene_file.proofs.write_rows.write_rows.Given as goal

abbrev pub invariant-rows : goal.invariant-rows
invariant-rows l = string_bytes l.out ++ rest_text l.later row_text (drop l.at l.table.rows)
    ≡ string_bytes l.initial.out ++ rest_text false row_text l.table.rows
