use Rattle.scene_journal.proofs.Recorded.{none_ready}
use Rattle.scene_journal.proofs.recorder.Recorder.idle.Goals as goal

pub invariant_of-result : goal.invariant_of-result
invariant_of-result c =
    let w = c.args.world in (none_ready w.room c.new.result.items w.world c.new.ensures.items, c.new-2.ensures w.world)
