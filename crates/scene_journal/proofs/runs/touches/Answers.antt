use Rattle.std.proofs.Common.{sym, ◌∙◌}
use Rattle.scene_journal.proofs.LiveRuns.{kept_true, spared}
use Rattle.scene_journal.proofs.runs.touches.Goals as goal

pub returns : goal.returns
returns c = λ e same. spared c.args.run.now c.args.other.now c.touched.result c.written.result c.touched.ensures c.written.ensures c.requires.below (sym c.is_disjoint.ensures ∙ kept_true c.is_disjoint.result e)
