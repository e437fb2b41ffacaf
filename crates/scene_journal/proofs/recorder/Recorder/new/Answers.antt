use Rattle.std.proofs.Common.{ap, subst, sym}
use Rattle.scene_deltas.specs.Ready.{AreReady}
use Rattle.scene_journal.specs.Records.{Record}
use Rattle.scene_journal.proofs.recorder.Recorder.new.Goals as goal

pub invariant_of-result : goal.invariant_of-result
invariant_of-result c =
    let w = c.args.world in
    (∣ subst (λ ds. AreReady w.room ds w.world) (sym (ap (λ (r : Record). r.deltas) c.into_parts-tick_before.ensures)) c.requires ∣₁, c.new.ensures w.world)
