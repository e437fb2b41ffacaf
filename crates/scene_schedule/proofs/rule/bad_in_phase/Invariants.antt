use Rattle.std.proofs.Common.{◌≡◌, ◌≤◌, drop}
use Rattle.scene_schedule.specs.Schedule.{bad_in_phase}
use Rattle.scene_schedule.proofs.rule.bad_in_phase.Given as goal

abbrev pub invariant-places : goal.invariant-places
invariant-places l = record {
  few : l.at ≤ 64;
  rest : bad_in_phase l.schema l.phase l.at (drop l.at l.rules) ≡ bad_in_phase l.schema l.phase 0 l.rules;
}
