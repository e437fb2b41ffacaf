use Rattle.std.proofs.Common.{◌≡◌, ◌<◌, length, rules, subst}
use Rattle.scene_json.specs.View.{view}
use Rattle.scene_json_forms.specs.declared.fault.FileFault.{FileFault}
use Rattle.scene_json_forms.specs.Members.{members_in}
use Rattle.scene_json_forms.specs.Outcome.{IsTextFault}
use Rattle.scene_json_forms.specs.Paths.{path_bytes}
use Rattle.scene_json_forms.proofs.Walking.{handed_on}
use Rattle.scene_requests.specs.Cells.{listed}
use Rattle.scene_requests.specs.Walk.{cells_from}
use Rattle.scene_requests.proofs.CellLists.{cell_faulty, cell_more}
use Rattle.scene_requests.proofs.read_cells.cells_of.Goals as goal

pub kinds-preserved : goal.kinds-preserved
kinds-preserved c =
    let path = path_bytes c.args.path.now in
    let ms = members_in (view c.args.object.now) in
    let low : c.kinds.kind < length c.args.schema.now = search rules in
    cell_more path ms c.args.schema.now (cells_from path ms 0 c.args.schema.now) c.kinds.cells.items c.push_listed.new.cells.items
    (listed c.in_ok-cell.cell) c.kinds.kind low c.kinds.invariant c.in_ok-cell.ensures c.in_ok-push_listed.ensures

pub returns-in_err-cell : goal.returns-in_err-cell
returns-in_err-cell c =
    let path = path_bytes c.args.path.now in
    let ms = members_in (view c.args.object.now) in
    let kinds = c.args.schema.now in
    let whole = cells_from path ms 0 kinds in
    let f = c.in_err-cell.field-0.0 in
    let low : c.kinds.kind < length kinds = search rules in
    let first : IsTextFault f whole =
    cell_faulty path ms kinds whole c.kinds.cells.items c.kinds.kind f low c.kinds.invariant c.in_err-cell.ensures in
    handed_on (λ cells. cells.items) c.from_residual.result whole _ c.from_residual.ensures.1 (λ e same.
    let is : f ≡ e = cc in subst (λ (g : FileFault). IsTextFault g whole) is first)
