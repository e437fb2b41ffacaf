use Rattle.std.proofs.Common.{List, ap, sym, reverse, ◌∙◌, ◌≡◌, string_bytes}
use Rattle.std.proofs.lemmas.List.{reverse-reverse}
use Rattle.serde_json.specs.Written.{compact_text}
use Rattle.scene_journal.specs.Records.{Record}
use Rattle.scene_file_records.specs.Text.{records_text}
use Rattle.scene_file.specs.Printing.{first_members, last_members}
use Rattle.scene_json_forms.proofs.ListsWritten.{accepted, as_text, chain, seen_as}
use Rattle.scene_file.proofs.Objects.{editor_is}
use Rattle.scene_file.proofs.write_editor.write_editor.Goals as goal

pub returns : goal.returns
returns c =
    let e = c.args.editor.now in
    let past = reverse e.past in
    let records = λ (rs : List Record). compact_text (records_text rs) in
    let oldest_first : c.records.result.0.now ≡ past = sym (reverse-reverse c.records.result.0.now) ∙ ap reverse c.records.ensures.past in
    accepted c.push_str-3.result _ _ _ c.push_str-3.ensures.bytes (λ closed.
    as_text (string_bytes c.args.out.now) _ _ _ (editor_is e.world past e.future)
    (chain (string_bytes c.args.out.now) _ _ _ _
    (seen_as first_members (string_bytes c.args.out.now) _ c.in_ok-write_first_members.ensures c.world.ensures)
    (chain (string_bytes c.write_first_members.new.out) _ _ _ _ c.in_ok-push_str.ensures.bytes
    (chain (string_bytes c.push_str.new.self) _ _ _ _
    (seen_as records (string_bytes c.push_str.new.self) _ c.in_ok-write_records.ensures c.records.ensures.future)
    (chain (string_bytes c.write_records.new.out) _ _ _ _
    (seen_as (last_members 2) (string_bytes c.write_records.new.out) _ c.in_ok-write_last_members.ensures c.world-2.ensures)
    (chain (string_bytes c.write_last_members.new.out) _ _ _ _ c.in_ok-push_str-2.ensures.bytes
    (chain (string_bytes c.push_str-2.new.self) _ _ _ _
    (seen_as records (string_bytes c.push_str-2.new.self) _ c.in_ok-write_records-2.ensures oldest_first) closed)))))))
