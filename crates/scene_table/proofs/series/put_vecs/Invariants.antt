use Rattle.std.proofs.Common.{◌≡◌, ◌++◌, take, drop}
use Rattle.scene_table.specs.Runs.{vecs_after}
use Rattle.scene_table.proofs.series.put_vecs.Given as goal

abbrev pub invariant-loop-at : goal.invariant-loop-at
invariant-loop-at l = l.values ≡ take l.at (vecs_after l.base l.by l.turns) ++ drop l.at l.fn.values
