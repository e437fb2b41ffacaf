use Rattle.std.proofs.Common.{◌≡◌, ◌++◌, take, drop}
use Rattle.scene_table.specs.Runs.{ints_after}
use Rattle.scene_table.proofs.series.put_ints.Given as goal

abbrev pub invariant-loop-at : goal.invariant-loop-at
invariant-loop-at l = l.values ≡ take l.at (ints_after l.base l.by l.turns) ++ drop l.at l.fn.values
