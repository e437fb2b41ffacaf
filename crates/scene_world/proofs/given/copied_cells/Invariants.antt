use Rattle.std.proofs.Common.{◌≡◌, length}
use Rattle.scene_model.specs.Commands.{new_cells}
use Rattle.scene_world.specs.Onto.{cells_onto}
use Rattle.scene_world.proofs.given.copied_cells.Given as goal

abbrev pub invariant-left : goal.invariant-left
invariant-left l = cells_onto l.tick l.left l.cells ≡ new_cells l.tick l.given

abbrev pub decreases-left : goal.decreases-left
decreases-left l = length l.left
