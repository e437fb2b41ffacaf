use Rattle.std.proofs.Common.{◌≡◌, ◌++◌, drop}
use Rattle.scene_pass.specs.Changes.{values_of}
use Rattle.scene_pass.specs.InPlace.{written_of}
use Rattle.scene_pass.proofs.written.written_of.Given as goal

abbrev pub invariant-cells : goal.invariant-cells
invariant-cells l = l.written.items ++ written_of l.steps (drop l.number (values_of l.row)) ≡ written_of l.steps (values_of l.row)
