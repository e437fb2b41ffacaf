use Rattle.std.proofs.Common.{◌≡◌, ◌<◌, ◌∙◌, [], length, ap, subst, sym, arith, Option}
use Rattle.std.specs.Prelude.{nat_eq, IsSome, false, true, vec_capacity, slice_get, slice_set}
use Rattle.std.specs.List.{position_from}
use Rattle.scene_kinds.specs.declared.cell.Cell.{Cell}
use Rattle.scene_table.specs.Columns.{ColumnState}
use Rattle.scene_table.specs.Table.{rows_with_cell, cell_at}
use Rattle.scene_table.proofs.TableRows.{length-rows_of}
use Rattle.scene_table.proofs.TableFacts.{cell_found, cell_missed, within_each, set_table, set_rows, set_least}
use Rattle.scene_table.proofs.table.Table.set_cell.Goals as goal

pub index_mut-requires : goal.index_mut-requires
index_mut-requires c =
    let n = ap (λ t. length t.rows) (sym c.self.view_is) ∙ length-rows_of c.self.inside.entities.items c.self.inside.columns.items c.self.invariant.long in
    let found = c.in-Some.ensures ∙ ap (λ t. position_from (λ (x : ColumnState). nat_eq c.args.kind x.kind) 0 t) c.as_slice.ensures.value in
    let place = cell_found c.self.inside.entities.items c.self.inside.columns.items c.args.at c.args.kind c.in-Some.number (record { kind = 0; cells = []; capacity = 0 }) c.self.invariant.long (omega arith) found in
    omega (arith, place.0)

pub set-requires : goal.set-requires
set-requires c =
    let n = ap (λ t. length t.rows) (sym c.self.view_is) ∙ length-rows_of c.self.inside.entities.items c.self.inside.columns.items c.self.invariant.long in
    let found = c.in-Some.ensures ∙ ap (λ t. position_from (λ (x : ColumnState). nat_eq c.args.kind x.kind) 0 t) c.as_slice.ensures.value in
    let place = cell_found c.self.inside.entities.items c.self.inside.columns.items c.args.at c.args.kind c.in-Some.number c.index_mut.result.now c.self.invariant.long (omega arith) found in
    subst (λ (t : ColumnState). c.args.at < length t.cells) (sym c.index_mut.ensures.value) (within_each c.self.inside.entities.items c.args.at c.self.inside.columns.items c.self.invariant.long (omega arith) c.in-Some.number c.index_mut.result.now place.0)

pub invariant_of-self : goal.invariant_of-self
invariant_of-self c =
    let n = ap (λ t. length t.rows) (sym c.self.view_is) ∙ length-rows_of c.self.inside.entities.items c.self.inside.columns.items c.self.invariant.long in
    let found = c.in-Some.ensures ∙ ap (λ t. position_from (λ (x : ColumnState). nat_eq c.args.kind x.kind) 0 t) c.as_slice.ensures.value in
    set_table c.self.inside.mask (vec_capacity c.self.inside.entities) c.args.at c.args.kind c.in-Some.number c.self.inside.entities.items c.self.inside.columns.items c.index_mut.result.now c.set.new.self c.args.cell c.self.invariant (omega arith) (omega arith) found
    (c.set.ensures.new ∙ ap (λ (t : ColumnState). record t { cells = slice_set t.cells c.args.at c.args.cell }) c.index_mut.ensures.value)

pub unreachable-requires : goal.unreachable-requires
unreachable-requires c =
    let n = ap (λ t. length t.rows) (sym c.self.view_is) ∙ length-rows_of c.self.inside.entities.items c.self.inside.columns.items c.self.invariant.long in
    let missed = c.in-None.ensures ∙ ap (λ t. position_from (λ (x : ColumnState). nat_eq c.args.kind x.kind) 0 t) c.as_slice.ensures.value in
    let none = ap (λ t. cell_at t.rows c.args.at c.args.kind) (sym c.self.view_is) ∙ cell_missed c.self.inside.entities.items c.self.inside.columns.items c.args.at c.args.kind c.self.invariant.long (omega arith) missed in
    let some = subst (λ (o : Option Cell). IsSome o) none c.requires.there in
    absurd (let g : false ≡ true = some in cc)

pub returns-clause-old : goal.returns-clause-old
returns-clause-old c =
    let n = ap (λ t. length t.rows) (sym c.self.view_is) ∙ length-rows_of c.self.inside.entities.items c.self.inside.columns.items c.self.invariant.long in
    let found = c.in-Some.ensures ∙ ap (λ t. position_from (λ (x : ColumnState). nat_eq c.args.kind x.kind) 0 t) c.as_slice.ensures.value in
    let place = cell_found c.self.inside.entities.items c.self.inside.columns.items c.args.at c.args.kind c.in-Some.number c.index_mut.result.now c.self.invariant.long (omega arith) found in
    ap (λ t. cell_at t.rows c.args.at c.args.kind) (sym c.self.view_is) ∙ place.1 ∙ ap (λ (t : ColumnState). slice_get t.cells c.args.at) (sym c.index_mut.ensures.value) ∙ c.set.ensures.old

pub returns-clause-rows : goal.returns-clause-rows
returns-clause-rows c =
    let n = ap (λ t. length t.rows) (sym c.self.view_is) ∙ length-rows_of c.self.inside.entities.items c.self.inside.columns.items c.self.invariant.long in
    let found = c.in-Some.ensures ∙ ap (λ t. position_from (λ (x : ColumnState). nat_eq c.args.kind x.kind) 0 t) c.as_slice.ensures.value in
    set_rows c.self.inside.mask (vec_capacity c.self.inside.entities) c.args.at c.args.kind c.in-Some.number c.self.inside.entities.items c.self.inside.columns.items c.index_mut.result.now c.set.new.self c.args.cell c.self.invariant (omega arith) (omega arith) found
    (c.set.ensures.new ∙ ap (λ (t : ColumnState). record t { cells = slice_set t.cells c.args.at c.args.cell }) c.index_mut.ensures.value)
    ∙ ap (λ t. rows_with_cell t.rows c.args.at c.args.kind c.args.cell) c.self.view_is

pub returns-clause-capacity : goal.returns-clause-capacity
returns-clause-capacity c =
    let n = ap (λ t. length t.rows) (sym c.self.view_is) ∙ length-rows_of c.self.inside.entities.items c.self.inside.columns.items c.self.invariant.long in
    let found = c.in-Some.ensures ∙ ap (λ t. position_from (λ (x : ColumnState). nat_eq c.args.kind x.kind) 0 t) c.as_slice.ensures.value in
    set_least c.self.inside.mask (vec_capacity c.self.inside.entities) c.args.at c.args.kind c.in-Some.number c.self.inside.entities.items c.self.inside.columns.items c.index_mut.result.now c.set.new.self c.args.cell c.self.invariant (omega arith) (omega arith) found
    (c.set.ensures.new ∙ ap (λ (t : ColumnState). record t { cells = slice_set t.cells c.args.at c.args.cell }) c.index_mut.ensures.value)
    ∙ ap (λ t. t.capacity) c.self.view_is
