use Rattle.std.proofs.Common.{◌≡◌, ◌≤◌, drop}
use Rattle.scene_world.specs.Usual.{is_usual_from}
use Rattle.scene_world.proofs.given.are_usual.Given as goal

abbrev pub invariant-loop-kind : goal.invariant-loop-kind
invariant-loop-kind l = record {
  usual : is_usual_from l.schema l.least (drop l.kind-index l.cells) ≡ is_usual_from l.schema 0 l.cells;
  low : l.least ≤ 256;
}
