use Rattle.scene_json_forms.proofs.ListsWritten.{five}
use Rattle.scene_file_records.proofs.Objects.{shifted_is}
use Rattle.scene_file_records.proofs.write_deltas.write_shifted.Goals as goal

pub returns : goal.returns
returns c = five _ _ _ _ _ _ _ _ _ _ _ _ (shifted_is c.args.entity c.args.place (c.args.kind, c.args.cell.now) c.args.inward)
    c.in_ok-push_str.ensures.bytes c.in_ok-write_kcell.ensures c.in_ok-push_str-2.ensures.bytes c.in_ok-write_entity.ensures
    c.in_ok-write.ensures.bytes
