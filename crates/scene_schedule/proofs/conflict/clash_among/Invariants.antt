use Rattle.std.proofs.Common.{◌≡◌, ◌+◌, drop}
use Rattle.scene_schedule.specs.Schedule.{clash_among}
use Rattle.scene_schedule.proofs.conflict.clash_among.Given as goal

abbrev pub invariant-others : goal.invariant-others
invariant-others l = record {
  place : l.second ≡ l.first + 1 + l.other-index;
  rest : clash_among l.phase l.first l.second l.rule (drop l.other-index l.others) ≡ clash_among l.phase l.first (l.first + 1) l.rule l.others;
}
