use Rattle.std.proofs.Common.{◌≡◌, length}
use Rattle.scene_model.specs.Commands.{new_cells}
use Rattle.scene_world.specs.Onto.{cells_onto}
use Rattle.scene_world.proofs.given.new_cells.Given as goal

abbrev pub invariant-loop-kind : goal.invariant-loop-kind
invariant-loop-kind l = cells_onto l.tick l.given.items l.cells ≡ new_cells l.fn.tick l.fn.given.items

abbrev pub decreases-loop-kind : goal.decreases-loop-kind
decreases-loop-kind l = length l.given.items
