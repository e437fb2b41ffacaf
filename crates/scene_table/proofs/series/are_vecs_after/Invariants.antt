use Rattle.std.proofs.Common.{◌≡◌, take}
use Rattle.scene_table.specs.Runs.{vecs_after}
use Rattle.scene_table.proofs.series.are_vecs_after.Given as goal

abbrev pub invariant-loop-at : goal.invariant-loop-at
invariant-loop-at l = take l.at l.values ≡ take l.at (vecs_after l.base l.by l.turns)
