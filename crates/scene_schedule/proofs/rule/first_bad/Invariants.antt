use Rattle.std.proofs.Common.{◌≡◌, ◌≤◌, drop}
use Rattle.scene_schedule.specs.Schedule.{bad_from}
use Rattle.scene_schedule.proofs.rule.first_bad.Given as goal

abbrev pub invariant-places : goal.invariant-places
invariant-places l = record {
  few : l.at ≤ 64;
  rest : bad_from l.schema l.at (drop l.at l.phases) ≡ bad_from l.schema 0 l.phases;
}
