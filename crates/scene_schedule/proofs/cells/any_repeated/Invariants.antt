use Rattle.std.proofs.Common.{◌≡◌, drop}
use Rattle.scene_model.specs.Commands.{any_twice}
use Rattle.scene_schedule.proofs.cells.any_repeated.Given as goal

abbrev pub invariant-loop-i : goal.invariant-loop-i
invariant-loop-i l = any_twice (drop l.i l.cells) ≡ any_twice l.cells
