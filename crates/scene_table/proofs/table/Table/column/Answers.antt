use Rattle.std.proofs.Common.{◌≡◌, ◌∙◌, List, map, ap, sym, arith, Some}
use Rattle.std.specs.Prelude.{nat_eq, true, vec_capacity}
use Rattle.std.specs.List.{position_from}
use Rattle.std.proofs.Common.{rules}
use Rattle.scene_kinds.specs.declared.cell.Cell.{Cell}
use Rattle.scene_kinds.specs.declared.cells.Row.{Row}
use Rattle.scene_table.specs.Columns.{ColumnState}
use Rattle.scene_table.specs.Table.{cells_of_kind}
use Rattle.scene_table.proofs.TableRows.{column_cells}
use Rattle.scene_table.proofs.TableFacts.{number_within, rows_lack}
use Rattle.scene_table.proofs.table.Table.column.Goals as goal

pub index-requires : goal.index-requires
index-requires c =
    let found = c.in-Some.ensures ∙ ap (λ t. position_from (λ (x : ColumnState). nat_eq c.args.kind x.kind) 0 t) c.as_slice.ensures.value in
    let within = number_within (λ (x : ColumnState). nat_eq c.args.kind x.kind) c.self.inside.columns.items c.in-Some.number (sym found) in
    omega arith

pub returns-in-Some-clause-cells : goal.returns-in-Some-clause-cells
returns-in-Some-clause-cells c =
    let found = c.in-Some.ensures ∙ ap (λ t. position_from (λ (x : ColumnState). nat_eq c.args.kind x.kind) 0 t) c.as_slice.ensures.value in
    ap (map (λ (cell : Cell). Some cell)) (c.lent.ensures.cells ∙ ap (λ (t : ColumnState). t.cells) c.index.ensures)
    ∙ sym (column_cells c.args.kind c.self.inside.columns.items c.in-Some.number (sym found) c.self.inside.entities.items c.index.result.now c.self.invariant.long)
    ∙ ap (λ t. cells_of_kind t.rows c.args.kind) c.self.view_is

pub returns-in-None-clause-cells : goal.returns-in-None-clause-cells
returns-in-None-clause-cells c =
    let missed = c.in-None.ensures ∙ ap (λ t. position_from (λ (x : ColumnState). nat_eq c.args.kind x.kind) 0 t) c.as_slice.ensures.value in
    let kept : c.contains.result ≡ true = search rules in
    let has = sym c.contains.ensures ∙ kept in
    ap (λ (rows : List Row). cells_of_kind rows c.args.kind) (sym (rows_lack c.self.inside.mask c.self.inside.entities.items (vec_capacity c.self.inside.entities) c.self.inside.columns.items c.args.kind c.self.invariant (omega arith) has missed))
    ∙ ap (λ t. cells_of_kind t.rows c.args.kind) c.self.view_is
