use Rattle.scene_json.specs.View.{view}
use Rattle.scene_json_forms.specs.Members.{members_in}
use Rattle.scene_json_forms.specs.Paths.{path_bytes}
use Rattle.scene_requests.specs.Walk.{cells_from}
use Rattle.scene_requests.proofs.CellLists.{AreRead}
use Rattle.scene_requests.proofs.read_cells.cells_of.Given as goal

-- the cells so far
abbrev pub invariant-kinds : goal.invariant-kinds
invariant-kinds l =
    AreRead (path_bytes l.path) (members_in (view l.object)) l.schema (cells_from (path_bytes l.path) (members_in (view l.object)) 0 l.schema) l.cells.items l.kind
