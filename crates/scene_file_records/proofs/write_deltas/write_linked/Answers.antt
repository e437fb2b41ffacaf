use Rattle.scene_json_forms.proofs.ListsWritten.{accepted}
use Rattle.scene_file_records.proofs.Objects.{linked_is, seven}
use Rattle.scene_file_records.proofs.write_deltas.write_linked.Goals as goal

pub returns : goal.returns
returns c = accepted c.push_str-4.result _ _ _ c.push_str-4.ensures.bytes (λ last. seven _ _ _ _ _ _ _ _ _ _ _ _ _ _ _ _
    (linked_is c.args.entity c.args.before c.args.after)
    c.in_ok-push_str.ensures.bytes c.in_ok-write_link.ensures c.in_ok-push_str-2.ensures.bytes c.in_ok-write_link-2.ensures
    c.in_ok-push_str-3.ensures.bytes c.in_ok-write_entity.ensures last)
