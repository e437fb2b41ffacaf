use Rattle.std.proofs.Common.{ap, subst, sym, ◌∙◌}
use Rattle.scene_deltas.specs.Ready.{AreReady}
use Rattle.scene_journal.specs.Records.{Record}
use Rattle.scene_deltas.proofs.Truncated.{found_ready}
use Rattle.scene_journal.proofs.Recorded.{none_ready}
use Rattle.scene_journal.proofs.recorder.Recorder.finish.Goals as goal

pub returns-clause-ready : goal.returns-clause-ready
returns-clause-ready c =
    let w = c.self.inside.world in
    let same = ap (λ (r : Record). r.deltas) c.new-2.ensures ∙ ap (λ ds. ds.items) c.replace-deltas.ensures.value ∙ c.shrink_to_fit.ensures in
    subst (λ ds. AreReady w.room ds w.world) (sym same) (found_ready w.room c.self.inside.deltas.items w.world c.self.invariant.0)

pub invariant_of-self : goal.invariant_of-self
invariant_of-self c =
    let v = c.self.inside.world in
    let none = ap (λ ds. ds.items) c.replace-deltas.ensures.after ∙ c.new.ensures.items in
    (none_ready v.room c.replace-deltas.new.dest.items v.world none, c.finish.ensures v.world c.self.invariant.1)
