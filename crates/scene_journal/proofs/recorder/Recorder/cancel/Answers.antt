use Rattle.std.proofs.Common.{ap, subst, sym, ◌∙◌}
use Rattle.scene_deltas.specs.Ready.{AreReady}
use Rattle.scene_deltas.proofs.Truncated.{found_ready}
use Rattle.scene_journal.proofs.Recorded.{none_ready}
use Rattle.scene_journal.proofs.recorder.Recorder.cancel.Goals as goal

pub take_all_back-requires : goal.take_all_back-requires
take_all_back-requires c =
    let w = c.self.inside.world in
    let same = sym c.replace-deltas.ensures.value in
    subst (λ ds. AreReady w.room ds.items w.world) same (found_ready w.room c.self.inside.deltas.items w.world c.self.invariant.0)

pub invariant_of-self : goal.invariant_of-self
invariant_of-self c =
    let v = c.set_tick.new.self in
    let none = ap (λ ds. ds.items) c.replace-deltas.ensures.after ∙ c.new.ensures.items in
    (none_ready v.room c.replace-deltas.new.dest.items v.world none, c.finish.ensures v.world (c.end.ensures v.world))
