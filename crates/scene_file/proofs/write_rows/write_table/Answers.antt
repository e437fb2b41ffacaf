use Rattle.std.proofs.Common.{ap, sym, ◌∙◌, string_bytes}
use Rattle.std.specs.Prelude.{codes}
use Rattle.serde_json.specs.Written.{compact_text}
use Rattle.scene_json_forms.specs.Text.{list_text}
use Rattle.scene_file.specs.Text.{row_text}
use Rattle.scene_file.specs.Printing.{kinds_json, table_json}
use Rattle.scene_json_forms.proofs.ListsWritten.{accepted, five}
use Rattle.scene_file.proofs.Objects.{table_is}
use Rattle.scene_file.proofs.write_rows.write_table.Goals as goal

pub returns : goal.returns
returns c =
    let rows = c.args.table.now.rows in
    let mask = c.mask.result in
    accepted c.push_str-3.result _ _ _ c.push_str-3.ensures.bytes (λ last.
    five (string_bytes c.args.out.now) (codes "{\"kinds\":") (compact_text (kinds_json mask)) (codes ",\"rows\":")
    (compact_text (list_text row_text rows)) (codes "}")
    (string_bytes c.push_str.new.self) (string_bytes c.write_kind_set.new.out) (string_bytes c.push_str-2.new.self)
    (string_bytes c.write_rows.new.out) (string_bytes c.push_str-3.new.self)
    (compact_text (table_json (c.args.table.now.mask, rows))) (ap (λ m. compact_text (table_json (m, rows))) (sym c.mask.ensures)
    ∙ table_is mask rows)
    c.in_ok-push_str.ensures.bytes c.in_ok-write_kind_set.ensures c.in_ok-push_str-2.ensures.bytes c.in_ok-write_rows.ensures last)
