use Rattle.std.proofs.Common.{◌<◌, ◌∙◌, ℕ, List, length, get_or, ap, subst, sym, arith}
use Rattle.std.specs.Prelude.{vec_capacity}
use Rattle.scene_table.specs.Rows.{swap_out}
use Rattle.scene_table.specs.Columns.{ColumnState}
use Rattle.scene_table.proofs.Swaps.{swap_remove_is}
use Rattle.scene_table.proofs.TableRows.{length-rows_of}
use Rattle.scene_table.proofs.TableFacts.{within_each, out_back, left_table, left_rows, left_least, left_room}
use Rattle.scene_table.proofs.table.Table.drop_row.Goals as goal

pub drop_cells-requires : goal.drop_cells-requires
drop_cells-requires c =
    let n = ap (λ t. length t.rows) (sym c.self.view_is) ∙ length-rows_of c.self.inside.entities.items c.self.inside.columns.items c.self.invariant.long in
    record { within = subst (λ (cs : List ColumnState). (k : ℕ) (d : ColumnState) → k < length cs → c.args.at < length (get_or cs k d).cells) (sym c.deref_mut.ensures.value) (within_each c.self.inside.entities.items c.args.at c.self.inside.columns.items c.self.invariant.long (omega arith)) }

pub swap_remove-requires : goal.swap_remove-requires
swap_remove-requires c =
    let n = ap (λ t. length t.rows) (sym c.self.view_is) ∙ length-rows_of c.self.inside.entities.items c.self.inside.columns.items c.self.invariant.long in
    omega arith

pub invariant_of-self : goal.invariant_of-self
invariant_of-self c =
    let n = ap (λ t. length t.rows) (sym c.self.view_is) ∙ length-rows_of c.self.inside.entities.items c.self.inside.columns.items c.self.invariant.long in
    let made = out_back c.self.inside.columns.len c.args.at c.self.inside.columns.items c.deref_mut.result.now c.drop_cells.new.columns (omega arith) c.deref_mut.ensures.value c.drop_cells.ensures.left in
    left_table c.self.inside.mask (vec_capacity c.self.inside.entities) c.args.at c.self.inside.entities.items c.self.inside.columns.items c.self.invariant (omega arith) c.swap_remove.new.self.items (vec_capacity c.swap_remove.new.self) _
    (c.swap_remove.ensures.items ∙ swap_remove_is c.self.inside.entities.items c.args.at c.swap_remove.result (omega arith)) c.swap_remove.ensures.capacity made

pub returns-clause-rows : goal.returns-clause-rows
returns-clause-rows c =
    let n = ap (λ t. length t.rows) (sym c.self.view_is) ∙ length-rows_of c.self.inside.entities.items c.self.inside.columns.items c.self.invariant.long in
    let made = out_back c.self.inside.columns.len c.args.at c.self.inside.columns.items c.deref_mut.result.now c.drop_cells.new.columns (omega arith) c.deref_mut.ensures.value c.drop_cells.ensures.left in
    left_rows c.self.inside.mask (vec_capacity c.self.inside.entities) c.args.at c.self.inside.entities.items c.self.inside.columns.items c.self.invariant (omega arith) c.swap_remove.new.self.items (vec_capacity c.swap_remove.new.self) _
    (c.swap_remove.ensures.items ∙ swap_remove_is c.self.inside.entities.items c.args.at c.swap_remove.result (omega arith)) c.swap_remove.ensures.capacity made
    ∙ ap (λ t. swap_out t.rows c.args.at) c.self.view_is

pub returns-clause-capacity : goal.returns-clause-capacity
returns-clause-capacity c =
    let n = ap (λ t. length t.rows) (sym c.self.view_is) ∙ length-rows_of c.self.inside.entities.items c.self.inside.columns.items c.self.invariant.long in
    let made = out_back c.self.inside.columns.len c.args.at c.self.inside.columns.items c.deref_mut.result.now c.drop_cells.new.columns (omega arith) c.deref_mut.ensures.value c.drop_cells.ensures.left in
    left_least c.self.inside.mask (vec_capacity c.self.inside.entities) c.args.at c.self.inside.entities.items c.self.inside.columns.items c.self.invariant (omega arith) c.swap_remove.new.self.items (vec_capacity c.swap_remove.new.self) _
    (c.swap_remove.ensures.items ∙ swap_remove_is c.self.inside.entities.items c.args.at c.swap_remove.result (omega arith)) c.swap_remove.ensures.capacity made
    ∙ ap (λ t. t.capacity) c.self.view_is

pub returns-clause-behind : goal.returns-clause-behind
returns-clause-behind c =
    let n = ap (λ t. length t.rows) (sym c.self.view_is) ∙ length-rows_of c.self.inside.entities.items c.self.inside.columns.items c.self.invariant.long in
    let made = out_back c.self.inside.columns.len c.args.at c.self.inside.columns.items c.deref_mut.result.now c.drop_cells.new.columns (omega arith) c.deref_mut.ensures.value c.drop_cells.ensures.left in
    left_room c.self.inside.mask (vec_capacity c.self.inside.entities) c.args.at c.self.inside.entities.items c.self.inside.columns.items c.self.invariant (omega arith) c.swap_remove.new.self.items (vec_capacity c.swap_remove.new.self) _
    (c.swap_remove.ensures.items ∙ swap_remove_is c.self.inside.entities.items c.args.at c.swap_remove.result (omega arith)) c.swap_remove.ensures.capacity made
