use Rattle.std.proofs.Common.{◌≡◌, ◌++◌, map, take, drop}
use Rattle.scene_model.specs.World.{component_of}
use Rattle.scene_c.specs.Arguments.{entity_of}
use Rattle.scene_c.specs.Reads.{cell_or_absent}
use Rattle.scene_c.proofs.gathering.fill_cells.Given as goal

abbrev pub invariant-cells : goal.invariant-cells
invariant-cells l = l.room ≡ take l.at (map (λ e. cell_or_absent l.fn.kind (component_of l.fn.world.world (entity_of e) l.fn.kind)) l.fn.entities) ++ drop l.at l.fn.room
