use Rattle.std.proofs.Common.{◌≡◌, ◌++◌, sym, ◌∙◌, string_bytes}
use Rattle.std.specs.Prelude.{codes, decimal}
use Rattle.serde_json.specs.Written.{compact_text}
use Rattle.scene_journal.specs.Records.{record_of}
use Rattle.scene_json_forms.specs.Text.{list_text}
use Rattle.scene_json_forms.proofs.ListsWritten.{accepted, five}
use Rattle.scene_file_records.specs.Text.{delta_text, record_text}
use Rattle.scene_file_records.proofs.Objects.{record_is}
use Rattle.scene_file_records.proofs.write_frames.write_record.Goals as goal

pub returns : goal.returns
returns c =
    let deltas = c.deltas.result.now.items in
    let tick = c.tick_before.result in
    let text : compact_text (record_text c.args.frame.now)
    ≡ codes "{\"deltas\":" ++ (compact_text (list_text delta_text deltas) ++ (codes ",\"tick\":" ++ (decimal tick ++ codes "}"))) =
    (λ i. compact_text (record_text (record_of (sym c.tick_before.ensures i) (sym c.deltas.ensures i)))) ∙ record_is tick deltas in
    accepted c.push_str-3.result _ _ _ c.push_str-3.ensures.bytes (λ last.
    five (string_bytes c.args.out.now) (codes "{\"deltas\":") (compact_text (list_text delta_text deltas)) (codes ",\"tick\":") (decimal tick) (codes "}")
    (string_bytes c.push_str.new.self) (string_bytes c.write_delta_list.new.out) (string_bytes c.push_str-2.new.self)
    (string_bytes c.write_count.new.out) (string_bytes c.push_str-3.new.self) (compact_text (record_text c.args.frame.now)) text
    c.in_ok-push_str.ensures.bytes c.in_ok-write_delta_list.ensures c.in_ok-push_str-2.ensures.bytes c.in_ok-write_count.ensures last)
