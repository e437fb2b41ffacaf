use Rattle.std.proofs.Common.{◌≡◌}
use Rattle.std.specs.Prelude.{vec_capacity}
use Rattle.scene_journal.proofs.LiveRuns.{IsEnded}
use Rattle.scene_journal.proofs.runs.Runs.end_touched.Given as goal

abbrev pub invariant-loop-at : goal.invariant-loop-at
invariant-loop-at l = IsEnded l.run l.initial.self.list.items l.self.list.items l.at × (vec_capacity l.self.list ≡ vec_capacity l.initial.self.list)
