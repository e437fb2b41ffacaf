use Rattle.scene_json_forms.proofs.ListsWritten.{accepted}
use Rattle.scene_file_records.proofs.Objects.{cell_set_is, seven}
use Rattle.scene_file_records.proofs.write_deltas.write_cell_set.Goals as goal

pub returns : goal.returns
returns c = accepted c.push_str-4.result _ _ _ c.push_str-4.ensures.bytes (λ last. seven _ _ _ _ _ _ _ _ _ _ _ _ _ _ _ _
    (cell_set_is c.args.entity (c.args.kind, c.args.before.now) (c.args.kind, c.args.after.now))
    c.in_ok-push_str.ensures.bytes c.in_ok-write_kcell.ensures c.in_ok-push_str-2.ensures.bytes c.in_ok-write_kcell-2.ensures
    c.in_ok-push_str-3.ensures.bytes c.in_ok-write_entity.ensures last)
