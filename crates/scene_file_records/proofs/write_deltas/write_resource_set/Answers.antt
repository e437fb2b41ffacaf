use Rattle.std.proofs.Common.{ap, sym, ◌∙◌}
use Rattle.serde_json.specs.Written.{compact_text}
use Rattle.scene_json_forms.proofs.ListsWritten.{accepted}
use Rattle.scene_file_records.specs.Text.{resource_set_text}
use Rattle.scene_file_records.proofs.Objects.{resource_set_is, seven}
use Rattle.scene_file_records.proofs.write_deltas.write_resource_set.Goals as goal

pub returns : goal.returns
returns c =
    let before = c.args.before.now in
    let after = c.args.after.now in
    let name = c.as_str.result.now in
    accepted c.push_str-4.result _ _ _ c.push_str-4.ensures.bytes (λ last. seven _ _ _ _ _ _ _ _ _ _ _ _ _ _ _ _
    (ap (λ n. compact_text (resource_set_text n before after)) (sym c.as_str.ensures) ∙ resource_set_is name before after)
    c.in_ok-push_str.ensures.bytes c.in_ok-write_maybe_resource_cell.ensures c.in_ok-push_str-2.ensures.bytes
    c.in_ok-write_maybe_resource_cell-2.ensures c.in_ok-push_str-3.ensures.bytes c.in_ok-write_json_text.ensures last)
