use Rattle.scene_file.proofs.RecordFaults.{records_faulty}
use Rattle.scene_file.proofs.loading_editor.with_records.Goals as goal

pub returns-in-BadRecord : goal.returns-in-BadRecord
returns-in-BadRecord c =
    records_faulty c.args.depth c.args.past.items c.args.future.items c.args.world.world c.in-Err.refusal c.in-BadRecord.frame c.in-BadRecord.delta
    c.in-Err.ensures.refused c.in-BadRecord.is
