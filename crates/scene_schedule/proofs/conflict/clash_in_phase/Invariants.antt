use Rattle.std.proofs.Common.{◌≡◌, drop}
use Rattle.scene_schedule.specs.Schedule.{clash_in_phase}
use Rattle.scene_schedule.proofs.conflict.clash_in_phase.Given as goal

abbrev pub invariant-places : goal.invariant-places
invariant-places l = clash_in_phase l.phase l.at (drop l.at l.rules) ≡ clash_in_phase l.phase 0 l.rules
