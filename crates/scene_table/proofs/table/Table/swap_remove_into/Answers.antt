use Rattle.std.proofs.Common.{◌<◌, ◌∙◌, ℕ, List, length, get_or, refl, ap, subst, sym, arith, Some}
use Rattle.std.specs.Prelude.{vec_capacity, slice_get}
use Rattle.std.proofs.lemmas.Option.{slice_get_read}
use Rattle.scene_kinds.specs.Cells.{HasKinds}
use Rattle.scene_kinds.specs.declared.cell.Cell.{Cell}
use Rattle.scene_table.specs.Rows.{swap_out}
use Rattle.scene_table.specs.Columns.{ColumnState, kinds_in, AreCellsAt}
use Rattle.scene_table.proofs.Swaps.{swap_remove_is}
use Rattle.scene_table.proofs.ColumnLists.{length-cells_at}
use Rattle.scene_table.proofs.TableRows.{length-rows_of, rows_get}
use Rattle.scene_table.proofs.TableFacts.{cells_kinds, row_there, within_each, out_back, left_table, left_rows, left_least, left_room}
use Rattle.scene_table.proofs.table.Table.swap_remove_into.Goals as goal

pub take_cells-cells-requires-clause-within : goal.take_cells-cells-requires-clause-within
take_cells-cells-requires-clause-within c =
    let n = ap (λ t. length t.rows) (sym c.self.view_is) ∙ length-rows_of c.self.inside.entities.items c.self.inside.columns.items c.self.invariant.long in
    subst (λ (cs : List ColumnState). (k : ℕ) (d : ColumnState) → k < length cs → c.args.at < length (get_or cs k d).cells) (sym c.deref_mut.ensures.value) (within_each c.self.inside.entities.items c.args.at c.self.inside.columns.items c.self.invariant.long (omega arith))

pub take_cells-cells-requires-clause-fits : goal.take_cells-cells-requires-clause-fits
take_cells-cells-requires-clause-fits c =
    let n = ap (λ t. length t.rows) (sym c.self.view_is) ∙ length-rows_of c.self.inside.entities.items c.self.inside.columns.items c.self.invariant.long in
    let there = row_there c.self.inside.entities.items c.self.inside.columns.items c.args.at c.self.invariant.long (omega arith) in
    let fits = c.requires.room there.0 (ap (λ t. slice_get t.rows c.args.at) (sym c.self.view_is) ∙ there.1.stands) in
    omega (arith, fits, length-cells_at c.self.inside.columns.items c.args.at there.0.cells there.1.cells_stand, c.deref_mut.ensures.len)

pub swap_remove-requires : goal.swap_remove-requires
swap_remove-requires c =
    let n = ap (λ t. length t.rows) (sym c.self.view_is) ∙ length-rows_of c.self.inside.entities.items c.self.inside.columns.items c.self.invariant.long in
    omega arith

pub returns-clause-row : goal.returns-clause-row
returns-clause-row c =
    let n = ap (λ t. length t.rows) (sym c.self.view_is) ∙ length-rows_of c.self.inside.entities.items c.self.inside.columns.items c.self.invariant.long in
    let es = c.self.inside.entities.items in
    let within : c.args.at < length es = omega arith in
    let here = slice_get_read es (length es) c.args.at c.swap_remove.result refl within c.swap_remove.ensures.value in
    ap (λ t. slice_get t.rows c.args.at) (sym c.self.view_is)
    ∙ rows_get es c.self.inside.columns.items c.args.at c.swap_remove.result c.take_cells-cells.result.items here
    (subst (λ (cs : List ColumnState). AreCellsAt cs c.args.at c.take_cells-cells.result.items) c.deref_mut.ensures.value c.take_cells-cells.ensures.cells)
    ∙ ap (λ (cells : List (ℕ × Cell)). Some (record { entity = c.swap_remove.result; cells = cells })) (sym c.from_vec.ensures)

pub returns-clause-fits : goal.returns-clause-fits
returns-clause-fits c =
    let n = ap (λ t. length t.rows) (sym c.self.view_is) ∙ length-rows_of c.self.inside.entities.items c.self.inside.columns.items c.self.invariant.long in
    let some : 0 < vec_capacity c.self.inside.entities = omega arith in
    let are = subst (λ (cs : List ColumnState). AreCellsAt cs c.args.at c.take_cells-cells.result.items) c.deref_mut.ensures.value c.take_cells-cells.ensures.cells in
    let kinds = ap kinds_in c.from_vec.ensures ∙ cells_kinds c.self.inside.columns.items c.args.at c.take_cells-cells.result.items are in
    subst (λ (mask : ℕ). HasKinds mask (record { entity = c.swap_remove.result; cells = c.from_vec.result })) (ap (λ t. t.mask) c.self.view_is)
    (c.self.invariant.kinds some (record { entity = c.swap_remove.result; cells = c.from_vec.result }) kinds)

pub invariant_of-self : goal.invariant_of-self
invariant_of-self c =
    let n = ap (λ t. length t.rows) (sym c.self.view_is) ∙ length-rows_of c.self.inside.entities.items c.self.inside.columns.items c.self.invariant.long in
    let made = out_back c.self.inside.columns.len c.args.at c.self.inside.columns.items c.deref_mut.result.now c.take_cells-cells.new.columns (omega arith) c.deref_mut.ensures.value c.take_cells-cells.ensures.left in
    left_table c.self.inside.mask (vec_capacity c.self.inside.entities) c.args.at c.self.inside.entities.items c.self.inside.columns.items c.self.invariant (omega arith) c.swap_remove.new.self.items (vec_capacity c.swap_remove.new.self) _
    (c.swap_remove.ensures.items ∙ swap_remove_is c.self.inside.entities.items c.args.at c.swap_remove.result (omega arith)) c.swap_remove.ensures.capacity made

pub returns-clause-rows : goal.returns-clause-rows
returns-clause-rows c =
    let n = ap (λ t. length t.rows) (sym c.self.view_is) ∙ length-rows_of c.self.inside.entities.items c.self.inside.columns.items c.self.invariant.long in
    let made = out_back c.self.inside.columns.len c.args.at c.self.inside.columns.items c.deref_mut.result.now c.take_cells-cells.new.columns (omega arith) c.deref_mut.ensures.value c.take_cells-cells.ensures.left in
    left_rows c.self.inside.mask (vec_capacity c.self.inside.entities) c.args.at c.self.inside.entities.items c.self.inside.columns.items c.self.invariant (omega arith) c.swap_remove.new.self.items (vec_capacity c.swap_remove.new.self) _
    (c.swap_remove.ensures.items ∙ swap_remove_is c.self.inside.entities.items c.args.at c.swap_remove.result (omega arith)) c.swap_remove.ensures.capacity made
    ∙ ap (λ t. swap_out t.rows c.args.at) c.self.view_is

pub returns-clause-capacity : goal.returns-clause-capacity
returns-clause-capacity c =
    let n = ap (λ t. length t.rows) (sym c.self.view_is) ∙ length-rows_of c.self.inside.entities.items c.self.inside.columns.items c.self.invariant.long in
    let made = out_back c.self.inside.columns.len c.args.at c.self.inside.columns.items c.deref_mut.result.now c.take_cells-cells.new.columns (omega arith) c.deref_mut.ensures.value c.take_cells-cells.ensures.left in
    left_least c.self.inside.mask (vec_capacity c.self.inside.entities) c.args.at c.self.inside.entities.items c.self.inside.columns.items c.self.invariant (omega arith) c.swap_remove.new.self.items (vec_capacity c.swap_remove.new.self) _
    (c.swap_remove.ensures.items ∙ swap_remove_is c.self.inside.entities.items c.args.at c.swap_remove.result (omega arith)) c.swap_remove.ensures.capacity made
    ∙ ap (λ t. t.capacity) c.self.view_is

pub returns-clause-behind : goal.returns-clause-behind
returns-clause-behind c =
    let n = ap (λ t. length t.rows) (sym c.self.view_is) ∙ length-rows_of c.self.inside.entities.items c.self.inside.columns.items c.self.invariant.long in
    let made = out_back c.self.inside.columns.len c.args.at c.self.inside.columns.items c.deref_mut.result.now c.take_cells-cells.new.columns (omega arith) c.deref_mut.ensures.value c.take_cells-cells.ensures.left in
    left_room c.self.inside.mask (vec_capacity c.self.inside.entities) c.args.at c.self.inside.entities.items c.self.inside.columns.items c.self.invariant (omega arith) c.swap_remove.new.self.items (vec_capacity c.swap_remove.new.self) _
    (c.swap_remove.ensures.items ∙ swap_remove_is c.self.inside.entities.items c.args.at c.swap_remove.result (omega arith)) c.swap_remove.ensures.capacity made
