use Rattle.std.proofs.Common.{ap, sym, ◌∙◌, ◌++◌, string_bytes}
use Rattle.std.specs.Prelude.{codes}
use Rattle.serde_json.specs.Written.{compact_text}
use Rattle.scene_kinds.specs.declared.cells.Row.{Row}
use Rattle.scene_json_forms.specs.Text.{list_text, cell_text, entity_json}
use Rattle.scene_file.specs.Text.{row_text}
use Rattle.scene_json_forms.proofs.ListsWritten.{accepted, five, read_of}
use Rattle.scene_file.proofs.Objects.{row_is}
use Rattle.scene_file.proofs.write_rows.write_row.Goals as goal

pub returns : goal.returns
returns c = accepted c.push_str-3.result _ _ _ c.push_str-3.ensures.bytes (λ last row there.
    five (string_bytes c.args.out.now) (codes "{\"cells\":") (compact_text (list_text (λ e. cell_text e.1) row.cells)) (codes ",\"entity\":")
    (compact_text (entity_json row.entity)) (codes "}")
    (string_bytes c.push_str.new.self) (string_bytes c.write_cells.new.out) (string_bytes c.push_str-2.new.self)
    (string_bytes c.write_entity.new.out) (string_bytes c.push_str-3.new.self)
    (compact_text (row_text row)) (row_is row)
    c.in_ok-push_str.ensures.bytes (c.in_ok-write_cells.ensures row there) c.in_ok-push_str-2.ensures.bytes
    (c.in_ok-write_entity.ensures ∙ ap (λ e. string_bytes c.push_str-2.new.self ++ compact_text (entity_json e))
    (sym (read_of (λ (r : Row). r.entity) c.args.table.now.rows c.args.at row c.entity_at.result there c.entity_at.ensures)))
    last)
