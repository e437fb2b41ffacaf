use Rattle.std.proofs.Common.{◌≡◌, drop}
use Rattle.scene_schedule.specs.Schedule.{writes_first}
use Rattle.scene_schedule.proofs.rule.writes_first.Given as goal

abbrev pub invariant-places : goal.invariant-places
invariant-places l = writes_first (drop l.at l.steps) ≡ writes_first l.steps
