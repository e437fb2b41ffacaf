use Rattle.std.proofs.Common.{◌≡◌, ◌++◌, [], ◌∷◌, Ok, get_or, ap, subst, sym, ◌∙◌, length, rules}
use Rattle.scene_kinds.specs.declared.shape.Shape.TheVariants.{Tag}
use Rattle.scene_json.specs.View.{view, views}
use Rattle.scene_json_forms.specs.declared.fault.FileFault.{FileFault}
use Rattle.scene_json_forms.specs.Outcome.{IsTextFault}
use Rattle.scene_json_forms.specs.Paths.{path_bytes}
use Rattle.scene_json_forms.specs.Reading.{place_in}
use Rattle.scene_json_forms.specs.Walk.{cell_at}
use Rattle.scene_json_forms.proofs.PathSteps.{path-Item}
use Rattle.scene_file.specs.Walk.{cells_from}
use Rattle.scene_file.proofs.CellSteps.{handed_on, one_faulty, one_read}
use Rattle.scene_file.proofs.read_rows.cells_from.Goals as goal

pub cells-preserved : goal.cells-preserved
cells-preserved c =
    let cells = c.cells.cells.items in
    let n = c.len-place.result in
    let shape = get_or c.args.shapes.now n Tag in
    let count : n ≡ length cells = search rules in
    let grown : c.push.new.self.items ≡ cells ++ c.in_ok-cell.cell ∷ [] = search rules in
    let read : cell_at shape (place_in (path_bytes c.args.path.now) n) (view c.in-Some.part) ≡ Ok c.in_ok-cell.cell =
    ap (λ p. cell_at shape p (view c.in-Some.part)) (sym (path-Item _ n)) ∙ c.in_ok-cell.ensures in
    one_read (path_bytes c.args.path.now) c.args.shapes.now _ cells c.push.new.self.items c.in_ok-cell.cell n (view c.in-Some.part) (views c.cells.parts)
    (views c.next.new.self) count grown c.in-Some.ensures c.cells.invariant read

pub returns-in_err-cell : goal.returns-in_err-cell
returns-in_err-cell c =
    let path = path_bytes c.args.path.now in
    let whole = cells_from c.args.shapes.now path 0 (views c.args.parts) in
    let n = c.len-place.result in
    let shape = get_or c.args.shapes.now n Tag in
    let part = view c.in-Some.part in
    let f = c.in_err-cell.field-0.0 in
    let count : n ≡ length c.cells.cells.items = search rules in
    let fault : IsTextFault f (cell_at shape (place_in path n) part) =
    subst (λ p. IsTextFault f (cell_at shape p part)) (path-Item _ n) c.in_err-cell.ensures in
    let first : IsTextFault f whole =
    one_faulty path c.args.shapes.now whole f c.cells.cells.items n part (views c.cells.parts) (views c.next.new.self) count c.in-Some.ensures
    c.cells.invariant fault in
    handed_on (λ cells. cells.items) c.from_residual-in_err-cell.result whole _ c.from_residual-in_err-cell.ensures.1 (λ e same.
    let is : f ≡ e = cc in subst (λ (g : FileFault). IsTextFault g whole) is first)
