use Rattle.scene_json_forms.proofs.ListsWritten.{accepted}
use Rattle.scene_file_records.proofs.Objects.{seven, spawned_is}
use Rattle.scene_file_records.proofs.write_deltas.write_spawned.Goals as goal

pub returns : goal.returns
returns c = accepted c.push_str-4.result _ _ _ c.push_str-4.ensures.bytes (λ last. seven _ _ _ _ _ _ _ _ _ _ _ _ _ _ _ _
    (spawned_is c.args.entity c.args.cells.now c.args.fresh)
    c.in_ok-push_str.ensures.bytes c.in_ok-write_kcells.ensures c.in_ok-push_str-2.ensures.bytes c.in_ok-write_entity.ensures
    c.in_ok-push_str-3.ensures.bytes c.in_ok-write_bool.ensures last)
