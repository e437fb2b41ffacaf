use Rattle.std.proofs.Common.{◌≡◌, ◌++◌, drop, string_bytes}
use Rattle.std.specs.Prelude.{false}
use Rattle.scene_file.specs.Printing.{table_json}
use Rattle.scene_json_forms.specs.Printing.{rest_text}
use Rattle.scene_file.proofs.write_rows.write_tables.Given as goal

abbrev pub invariant-tables : goal.invariant-tables
invariant-tables l = string_bytes l.out ++ rest_text l.later (λ t. table_json (t.now.mask, t.now.rows)) (drop l.table-index l.tables)
    ≡ string_bytes l.initial.out ++ rest_text false (λ t. table_json (t.now.mask, t.now.rows)) l.tables
