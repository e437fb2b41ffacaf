use Rattle.std.proofs.Common.{ap, ◌∙◌, ◌++◌, length, string_bytes}
use Rattle.std.specs.Prelude.{codes, decimal}
use Rattle.serde_json.specs.Written.{compact_text}
use Rattle.scene_table.specs.Tables.{rows_at}
use Rattle.scene_json_forms.proofs.ListsWritten.{accepted, five, seen_as}
use Rattle.scene_print.specs.JsonAsked.{table_head}
use Rattle.scene_print.specs.JsonShown.{kinds_json}
use Rattle.scene_print.proofs.JsonAsked.{table_head_is}
use Rattle.scene_print.proofs.json_asked.write_table_head.Goals as goal

pub returns : goal.returns
returns c =
    let w = c.args.world.now.world in
    let mask = c.args.mask in
    let s1 = string_bytes c.push_str.new.self in
    accepted c.push_str-3.result _ _ _ c.push_str-3.ensures.bytes (λ last.
    five (string_bytes c.args.out.now) (codes "{\"kinds\":") (compact_text (kinds_json w.schema mask)) (codes ",\"rows\":")
    (decimal (length (rows_at w.tables mask))) (codes "}")
    s1 (string_bytes c.write_kinds.new.out) (string_bytes c.push_str-2.new.self) (string_bytes c.write_count.new.out)
    (string_bytes c.push_str-3.new.self) (compact_text (table_head w mask)) (table_head_is w mask)
    c.in_ok-push_str.ensures.bytes (c.in_ok-write_kinds.ensures ∙ ap (λ kinds. s1 ++ compact_text (kinds_json kinds mask)) c.schema.ensures)
    c.in_ok-push_str-2.ensures.bytes (seen_as decimal (string_bytes c.push_str-2.new.self) _ c.in_ok-write_count.ensures c.row_count.ensures) last)
