use Rattle.std.proofs.Common.{◌<◌, ◌∙◌, ℕ, length, ap, subst, sym, arith, Some}
use Rattle.std.specs.Prelude.{slice_get}
use Rattle.scene_kinds.specs.Cells.{shown}
use Rattle.scene_table.specs.Columns.{ColumnState}
use Rattle.scene_table.proofs.ColumnLists.{length-cells_at}
use Rattle.scene_table.proofs.TableRows.{length-rows_of}
use Rattle.scene_table.proofs.TableFacts.{is_row_at, row_there, within_each, cell_numbered}
use Rattle.scene_table.proofs.table.Table.nth_cell.Goals as goal

pub index-column-requires : goal.index-column-requires
index-column-requires c =
    let n = ap (λ t. length t.rows) (sym c.self.view_is) ∙ length-rows_of c.self.inside.entities.items c.self.inside.columns.items c.self.invariant.long in
    let there = row_there c.self.inside.entities.items c.self.inside.columns.items c.args.at c.self.invariant.long (omega arith) in
    let low = c.requires.number there.0 (ap (λ t. slice_get t.rows c.args.at) (sym c.self.view_is) ∙ there.1.stands) in
    let within : c.args.number < length c.self.inside.columns.items = omega (arith, low, length-cells_at c.self.inside.columns.items c.args.at there.0.cells there.1.cells_stand) in
    omega arith

pub get-requires : goal.get-requires
get-requires c =
    let n = ap (λ t. length t.rows) (sym c.self.view_is) ∙ length-rows_of c.self.inside.entities.items c.self.inside.columns.items c.self.invariant.long in
    let there = row_there c.self.inside.entities.items c.self.inside.columns.items c.args.at c.self.invariant.long (omega arith) in
    let low = c.requires.number there.0 (ap (λ t. slice_get t.rows c.args.at) (sym c.self.view_is) ∙ there.1.stands) in
    let within : c.args.number < length c.self.inside.columns.items = omega (arith, low, length-cells_at c.self.inside.columns.items c.args.at there.0.cells there.1.cells_stand) in
    subst (λ (t : ColumnState). c.args.at < length t.cells) (sym c.index-column.ensures) (within_each c.self.inside.entities.items c.args.at c.self.inside.columns.items c.self.invariant.long (omega arith) c.args.number c.index-column.result.now within)

pub returns : goal.returns
returns c row is =
    let n = ap (λ t. length t.rows) (sym c.self.view_is) ∙ length-rows_of c.self.inside.entities.items c.self.inside.columns.items c.self.invariant.long in
    let there = row_there c.self.inside.entities.items c.self.inside.columns.items c.args.at c.self.invariant.long (omega arith) in
    let low = c.requires.number there.0 (ap (λ t. slice_get t.rows c.args.at) (sym c.self.view_is) ∙ there.1.stands) in
    let within : c.args.number < length c.self.inside.columns.items = omega (arith, low, length-cells_at c.self.inside.columns.items c.args.at there.0.cells there.1.cells_stand) in
    let p = is_row_at c.self.inside.entities.items c.self.inside.columns.items c.args.at row (ap (λ t. slice_get t.rows c.args.at) c.self.view_is ∙ is) in
    cell_numbered c.self.inside.columns.items c.args.at row.cells c.args.number c.index-column.result.now _ p.cells_stand within (ap (λ (t : ColumnState). slice_get t.cells c.args.at) (sym c.index-column.ensures) ∙ c.get.ensures)
    ∙ ap (λ (k : ℕ). Some (k, shown c.get.result)) (ap (λ (t : ColumnState). t.kind) (sym c.index-column.ensures) ∙ sym c.kind.ensures)
