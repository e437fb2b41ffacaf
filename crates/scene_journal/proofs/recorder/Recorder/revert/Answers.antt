use Rattle.scene_deltas.proofs.Truncated.{found_ready}
use Rattle.scene_journal.proofs.recorder.Recorder.revert.Goals as goal

pub take_all_back-requires : goal.take_all_back-requires
take_all_back-requires c = found_ready c.self.inside.world.room c.self.inside.deltas.items c.self.inside.world.world c.self.invariant.0
