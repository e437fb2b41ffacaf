use Rattle.std.proofs.Common.{◌≡◌, drop}
use Rattle.scene_schedule.specs.Schedule.{clash_from}
use Rattle.scene_schedule.proofs.conflict.first_clash.Given as goal

abbrev pub invariant-places : goal.invariant-places
invariant-places l = clash_from l.at (drop l.at l.phases) ≡ clash_from 0 l.phases
