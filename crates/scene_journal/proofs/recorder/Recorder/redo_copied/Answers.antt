use Rattle.std.proofs.Common.{ap, ◌∙◌}
use Rattle.scene_journal.specs.Recorder.{Recording}
use Rattle.scene_journal.proofs.Recorded.{none_ready}
use Rattle.scene_journal.proofs.recorder.Recorder.redo_copied.Goals as goal

pub invariant_of-self : goal.invariant_of-self
invariant_of-self c =
    let v = c.redo_copied.new.world in
    (none_ready v.room c.self.inside.deltas.items v.world (ap (λ (r : Recording). r.frame.deltas) c.self.view_is ∙ c.requires.empty), c.end.ensures v.world)
