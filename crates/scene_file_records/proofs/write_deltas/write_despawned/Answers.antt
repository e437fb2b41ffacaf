use Rattle.scene_file_records.proofs.Objects.{despawned_is, seven}
use Rattle.scene_file_records.proofs.write_deltas.write_despawned.Goals as goal

pub returns : goal.returns
returns c = seven _ _ _ _ _ _ _ _ _ _ _ _ _ _ _ _ (despawned_is c.args.entity c.args.place c.args.cells.now c.args.link c.args.retired)
    c.in_ok-push_str.ensures.bytes c.in_ok-write_kcells.ensures c.in_ok-push_str-2.ensures.bytes c.in_ok-write_entity.ensures
    c.in_ok-push_str-3.ensures.bytes c.in_ok-write_link.ensures c.in_ok-write.ensures.bytes
