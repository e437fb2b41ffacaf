use Rattle.std.proofs.Common.{◌≡◌, drop}
use Rattle.std.specs.Ordering.{nat_cmp}
use Rattle.std.specs.FinMap.Entries.{find}
use Rattle.scene_schedule.proofs.zero.zero_among.Given as goal

abbrev pub invariant-cells : goal.invariant-cells
invariant-cells l = find nat_cmp l.kind (drop l.at l.cells) ≡ find nat_cmp l.kind l.cells
