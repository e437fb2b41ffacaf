use Rattle.std.proofs.Common.{◌≡◌, ◌++◌, drop, string_bytes}
use Rattle.std.specs.Prelude.{false}
use Rattle.std.specs.List.{flat_map}
use Rattle.scene_json_forms.specs.Printing.{rest_text}
use Rattle.scene_print.specs.JsonAsked.{page}
use Rattle.scene_print.specs.JsonShown.{row_json}
use Rattle.scene_print.proofs.json_page.write_page.Given as goal

abbrev pub invariant-tables : goal.invariant-tables
invariant-tables l = string_bytes l.out ++ rest_text l.later (row_json l.schema) (page l.passed l.left (flat_map (λ t. t.now.rows) (drop l.table-index l.tables)))
    ≡ string_bytes l.initial.out ++ rest_text false (row_json l.schema) (page l.from l.count (flat_map (λ t. t.now.rows) l.tables))
