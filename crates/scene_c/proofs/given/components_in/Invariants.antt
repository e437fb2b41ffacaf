use Rattle.std.proofs.Common.{◌≡◌, drop}
use Rattle.scene_c.specs.Given.{components_in}
use Rattle.scene_c.proofs.GivenLaws.{with_before}
use Rattle.scene_c.proofs.given.components_in.Given as goal

abbrev pub invariant-cells : goal.invariant-cells
invariant-cells l = components_in l.fn.bytes l.fn.cells ≡ with_before l.given.items (components_in l.fn.bytes (drop l.at l.fn.cells))
