use Rattle.std.proofs.Common.{length}
use Rattle.scene_json.specs.View.{views}
use Rattle.scene_json_forms.specs.Paths.{path_bytes}
use Rattle.scene_file.specs.Walk.{cells_from}
use Rattle.scene_file.proofs.CellSteps.{AreRead}
use Rattle.scene_file.proofs.read_rows.cells_from.Given as goal

abbrev pub invariant-cells : goal.invariant-cells
invariant-cells l =
    AreRead (path_bytes l.path) l.shapes (cells_from l.shapes (path_bytes l.path) 0 (views l.initial.parts)) l.cells.items (views l.parts)

abbrev pub decreases-cells : goal.decreases-cells
decreases-cells l = length (views l.parts)
