use Rattle.std.proofs.Common.{◌≡◌, length}
use Rattle.std.specs.Prelude.{nat_lt}
use Rattle.std.specs.List.{list_all}
use Rattle.scene_kinds.specs.KindSet.{kinds_left}
use Rattle.scene_schedule.specs.Schedule.{knows}
use Rattle.scene_schedule.proofs.rule.knows.Given as goal

abbrev pub invariant-kinds : goal.invariant-kinds
invariant-kinds l = list_all (λ kind. nat_lt kind (length l.schema)) (kinds_left l.kind-iterator) ≡ knows l.schema l.set
