use Rattle.std.proofs.Common.{◌≡◌, ◌≤◌, drop}
use Rattle.scene_world.specs.Usual.{ascends_from}
use Rattle.scene_world.proofs.given.ascend.Given as goal

abbrev pub invariant-loop-kind : goal.invariant-loop-kind
invariant-loop-kind l = record {
  ascends : ascends_from l.least (drop l.kind-index l.given) ≡ ascends_from 0 l.given;
  low : l.least ≤ 256;
}
