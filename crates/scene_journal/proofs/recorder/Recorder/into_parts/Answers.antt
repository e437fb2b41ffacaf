use Rattle.std.proofs.Common.{ap, subst, sym}
use Rattle.scene_deltas.specs.Ready.{AreReady}
use Rattle.scene_journal.specs.Records.{Record}
use Rattle.scene_deltas.proofs.Truncated.{found_ready}
use Rattle.scene_journal.proofs.recorder.Recorder.into_parts.Goals as goal

pub returns-clause-ready : goal.returns-clause-ready
returns-clause-ready c =
    subst (λ ds. AreReady c.self.inside.world.room ds c.self.inside.world.world) (sym (ap (λ (r : Record). r.deltas) c.new.ensures))
    (found_ready c.self.inside.world.room c.self.inside.deltas.items c.self.inside.world.world c.self.invariant.0)
