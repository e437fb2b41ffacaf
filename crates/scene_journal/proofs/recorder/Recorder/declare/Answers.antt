use Rattle.std.proofs.Common.{ap, string_bytes, ◌∙◌}
use Rattle.scene_world.proofs.FurtherKind.{declared_tables}
use Rattle.scene_journal.specs.Recorder.{Recording}
use Rattle.scene_journal.proofs.LiveRuns.{kept_tables}
use Rattle.scene_journal.proofs.Recorded.{none_ready}
use Rattle.scene_journal.proofs.recorder.Recorder.declare.Goals as goal

pub invariant_of-self : goal.invariant_of-self
invariant_of-self c =
    let w = c.self.inside.world in
    let v = c.declare.new.self in (
      none_ready v.room c.self.inside.deltas.items v.world (ap (λ (r : Recording). r.frame.deltas) c.self.view_is ∙ c.requires.empty),
      kept_tables w.world v.world c.self.inside.runs (declared_tables c.declare.result w.world v.world (string_bytes c.args.name) c.args.shape c.declare.ensures.answer) c.self.invariant.1,
    )
