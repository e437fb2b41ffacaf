use Rattle.std.proofs.Common.{◌≡◌, ◌∙◌, length, ap, sym, arith, Some}
use Rattle.std.specs.Prelude.{slice_get}
use Rattle.std.specs.Option.{option_map}
use Rattle.scene_kinds.specs.declared.cells.Row.{Row}
use Rattle.scene_table.proofs.ColumnLists.{length-cells_at}
use Rattle.scene_table.proofs.TableRows.{length-rows_of}
use Rattle.scene_table.proofs.TableFacts.{row_there}
use Rattle.scene_table.proofs.table.Table.cell_count.Goals as goal

pub returns-clause-count : goal.returns-clause-count
returns-clause-count c =
    let n = ap (λ t. length t.rows) (sym c.self.view_is) ∙ length-rows_of c.self.inside.entities.items c.self.inside.columns.items c.self.invariant.long in
    let there = row_there c.self.inside.entities.items c.self.inside.columns.items c.args.at c.self.invariant.long (omega arith) in
    let count : length there.0.cells ≡ c.len.result = omega (arith, length-cells_at c.self.inside.columns.items c.args.at there.0.cells there.1.cells_stand, c.len.ensures) in
    ap (λ t. option_map (λ (row : Row). length row.cells) (slice_get t.rows c.args.at)) (sym c.self.view_is) ∙ ap (option_map (λ (row : Row). length row.cells)) there.1.stands ∙ ap (λ k. Some k) count
