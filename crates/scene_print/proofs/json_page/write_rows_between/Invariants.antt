use Rattle.std.proofs.Common.{◌≡◌, ◌++◌, List, drop, string_bytes, take}
use Rattle.scene_json_forms.specs.Printing.{rest_text}
use Rattle.scene_kinds.specs.declared.cells.Row.{Row}
use Rattle.scene_print.specs.JsonShown.{row_json}
use Rattle.scene_print.proofs.json_page.write_rows_between.Given as goal

abbrev pub invariant-rows : goal.invariant-rows
invariant-rows l = (more : List Row)
    → string_bytes l.out ++ rest_text l.later (row_json l.schema) (drop l.at (take l.to l.table.rows ++ more))
    ≡ string_bytes l.initial.out ++ rest_text l.initial.later (row_json l.schema) (drop l.from (take l.to l.table.rows ++ more))
