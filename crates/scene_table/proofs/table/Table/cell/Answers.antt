use Rattle.std.proofs.Common.{◌<◌, ◌∙◌, [], length, ap, subst, sym, arith}
use Rattle.std.specs.Prelude.{nat_eq, slice_get}
use Rattle.std.specs.List.{position_from}
use Rattle.scene_table.specs.Columns.{ColumnState}
use Rattle.scene_table.specs.Table.{cell_at}
use Rattle.scene_table.proofs.TableRows.{length-rows_of}
use Rattle.scene_table.proofs.TableFacts.{cell_found, cell_missed, within_each}
use Rattle.scene_table.proofs.table.Table.cell.Goals as goal

pub index-requires : goal.index-requires
index-requires c =
    let n = ap (λ t. length t.rows) (sym c.self.view_is) ∙ length-rows_of c.self.inside.entities.items c.self.inside.columns.items c.self.invariant.long in
    let found = c.in-Some.ensures ∙ ap (λ t. position_from (λ (x : ColumnState). nat_eq c.args.kind x.kind) 0 t) c.as_slice.ensures.value in
    let place = cell_found c.self.inside.entities.items c.self.inside.columns.items c.args.at c.args.kind c.in-Some.number (record { kind = 0; cells = []; capacity = 0 }) c.self.invariant.long (omega arith) found in
    omega (arith, place.0)

pub get-requires : goal.get-requires
get-requires c =
    let n = ap (λ t. length t.rows) (sym c.self.view_is) ∙ length-rows_of c.self.inside.entities.items c.self.inside.columns.items c.self.invariant.long in
    let found = c.in-Some.ensures ∙ ap (λ t. position_from (λ (x : ColumnState). nat_eq c.args.kind x.kind) 0 t) c.as_slice.ensures.value in
    let place = cell_found c.self.inside.entities.items c.self.inside.columns.items c.args.at c.args.kind c.in-Some.number c.index.result.now c.self.invariant.long (omega arith) found in
    subst (λ (t : ColumnState). c.args.at < length t.cells) (sym c.index.ensures) (within_each c.self.inside.entities.items c.args.at c.self.inside.columns.items c.self.invariant.long (omega arith) c.in-Some.number c.index.result.now place.0)

pub returns-in-Some : goal.returns-in-Some
returns-in-Some c =
    let n = ap (λ t. length t.rows) (sym c.self.view_is) ∙ length-rows_of c.self.inside.entities.items c.self.inside.columns.items c.self.invariant.long in
    let found = c.in-Some.ensures ∙ ap (λ t. position_from (λ (x : ColumnState). nat_eq c.args.kind x.kind) 0 t) c.as_slice.ensures.value in
    let place = cell_found c.self.inside.entities.items c.self.inside.columns.items c.args.at c.args.kind c.in-Some.number c.index.result.now c.self.invariant.long (omega arith) found in
    sym (ap (λ t. cell_at t.rows c.args.at c.args.kind) (sym c.self.view_is) ∙ place.1 ∙ ap (λ (t : ColumnState). slice_get t.cells c.args.at) (sym c.index.ensures) ∙ c.get.ensures)

pub returns-in-None : goal.returns-in-None
returns-in-None c =
    let n = ap (λ t. length t.rows) (sym c.self.view_is) ∙ length-rows_of c.self.inside.entities.items c.self.inside.columns.items c.self.invariant.long in
    let missed = c.in-None.ensures ∙ ap (λ t. position_from (λ (x : ColumnState). nat_eq c.args.kind x.kind) 0 t) c.as_slice.ensures.value in
    sym (ap (λ t. cell_at t.rows c.args.at c.args.kind) (sym c.self.view_is) ∙ cell_missed c.self.inside.entities.items c.self.inside.columns.items c.args.at c.args.kind c.self.invariant.long (omega arith) missed)
