use Rattle.std.proofs.Common.{ap, sym, ◌∙◌, ◌++◌, ◌∷◌, [], length, arith, Some}
use Rattle.std.proofs.lemmas.List.{append-nil, at_drop_all}
use Rattle.scene_kinds.specs.Cells.{shown}
use Rattle.scene_pass.proofs.RowSteps.{read_of, row_at, taken_over}
use Rattle.scene_pass.proofs.row_copies.copy_row.Goals as goal

pub cells-preserved : goal.cells-preserved
cells-preserved c = λ row there.
    taken_over row.cells c.cells.number (c.nth_cell-kind.result.0, shown c.nth_cell-kind.result.1) c.cells.items.items c.push.new.self.items row.cells (c.nth_cell-kind.ensures row there)
    (c.in_ok-push.ensures.items ∙ ap (λ x. c.cells.items.items ++ (c.nth_cell-kind.result.0, x) ∷ []) c.in_ok-try_to_cell.ensures) (c.cells.invariant row there)

pub returns : goal.returns
returns c =
    let rows = c.args.table.now.rows in
    let r = row_at rows c.args.at c.requires in let row = r.0 in
    let entity = read_of (λ row. row.entity) rows c.args.at row c.entity_at-entity.result r.1 c.entity_at-entity.ensures in
    let count = read_of (λ row. length row.cells) rows c.args.at row c.cell_count-count.result r.1 c.cell_count-count.ensures.count in
    let cells = sym (append-nil c.cells.items.items)
    ∙ sym (at_drop_all (λ l. c.cells.items.items ++ l) row.cells c.cells.number (omega (arith, count, c.cells-test.false))) ∙ c.cells.invariant row r.1 in
    r.1 ∙ (λ i. Some (record { entity = entity i; cells = (sym (c.from_vec-cells.ensures ∙ cells)) i }))
