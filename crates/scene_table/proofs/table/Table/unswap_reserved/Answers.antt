use Rattle.std.proofs.Common.{◌<◌, ◌∙◌, ℕ, List, length, get_or, ap, subst, sym, arith}
use Rattle.std.specs.Prelude.{vec_capacity}
use Rattle.std.specs.List.{swap}
use Rattle.scene_kinds.specs.Cells.{HasKinds}
use Rattle.scene_table.specs.Rows.{put_back}
use Rattle.scene_table.specs.Columns.{ColumnState, HasRoomAt}
use Rattle.scene_table.specs.Tables.{row_for}
use Rattle.scene_table.proofs.Swaps.{swap_is}
use Rattle.scene_table.proofs.KindLists.{kinds_as_columns}
use Rattle.scene_table.proofs.TableRows.{length-rows_of}
use Rattle.scene_table.proofs.TableFacts.{room_each, least_first, put_back_lent, came_table, came_rows, came_least, same_count}
use Rattle.scene_table.proofs.table.Table.unswap_reserved.Goals as goal

pub put_row-requires-clause-count : goal.put_row-requires-clause-count
put_row-requires-clause-count c =
    let n = ap (λ t. length t.rows) (sym c.self.view_is) ∙ length-rows_of c.self.inside.entities.items c.self.inside.columns.items c.self.invariant.long in
    let r = ap (λ t. t.capacity) c.self.view_is in
    let least_is = least_first (vec_capacity c.self.inside.entities) c.self.inside.columns.items in
    let some : 0 < vec_capacity c.self.inside.entities = omega arith in
    let fits = subst (λ (mask : ℕ). HasKinds mask (row_for c.args.entity c.args.cells)) (sym (ap (λ t. t.mask) c.self.view_is)) c.requires.fits in
    let kinds = kinds_as_columns c.self.inside.mask (row_for c.args.entity c.args.cells) c.self.inside.columns.items (c.self.invariant.kinds some) fits in
    let count = same_count c.args.cells c.self.inside.columns.items kinds in
    count ∙ ap length (sym c.deref_mut.ensures.value)

pub put_row-requires-clause-room : goal.put_row-requires-clause-room
put_row-requires-clause-room c =
    let n = ap (λ t. length t.rows) (sym c.self.view_is) ∙ length-rows_of c.self.inside.entities.items c.self.inside.columns.items c.self.invariant.long in
    let r = ap (λ t. t.capacity) c.self.view_is in
    let least_is = least_first (vec_capacity c.self.inside.entities) c.self.inside.columns.items in
    subst (λ (cs : List ColumnState). (k : ℕ) (d : ColumnState) → k < length cs → HasRoomAt c.args.at (get_or cs k d)) (sym c.deref_mut.ensures.value)
    (room_each c.self.inside.entities.items (vec_capacity c.self.inside.entities) c.args.at c.self.inside.columns.items c.self.invariant.long (omega arith) (omega arith))

pub push_reserved-requires : goal.push_reserved-requires
push_reserved-requires c =
    let n = ap (λ t. length t.rows) (sym c.self.view_is) ∙ length-rows_of c.self.inside.entities.items c.self.inside.columns.items c.self.invariant.long in
    let r = ap (λ t. t.capacity) c.self.view_is in
    let least_is = least_first (vec_capacity c.self.inside.entities) c.self.inside.columns.items in
    omega arith

pub swap-requires-clause-i_in_bounds : goal.swap-requires-clause-i_in_bounds
swap-requires-clause-i_in_bounds c =
    let n = ap (λ t. length t.rows) (sym c.self.view_is) ∙ length-rows_of c.self.inside.entities.items c.self.inside.columns.items c.self.invariant.long in
    omega (arith, c.push_reserved.ensures.len)

pub invariant_of-self : goal.invariant_of-self
invariant_of-self c =
    let n = ap (λ t. length t.rows) (sym c.self.view_is) ∙ length-rows_of c.self.inside.entities.items c.self.inside.columns.items c.self.invariant.long in
    let r = ap (λ t. t.capacity) c.self.view_is in
    let least_is = least_first (vec_capacity c.self.inside.entities) c.self.inside.columns.items in
    let some : 0 < vec_capacity c.self.inside.entities = omega arith in
    let fits = subst (λ (mask : ℕ). HasKinds mask (row_for c.args.entity c.args.cells)) (sym (ap (λ t. t.mask) c.self.view_is)) c.requires.fits in
    let kinds = kinds_as_columns c.self.inside.mask (row_for c.args.entity c.args.cells) c.self.inside.columns.items (c.self.invariant.kinds some) fits in
    let count = same_count c.args.cells c.self.inside.columns.items kinds in
    let made = put_back_lent c.self.inside.columns.len c.args.at c.args.cells c.self.inside.columns.items c.deref_mut.result.now c.put_row.new.columns (omega arith) count c.deref_mut.ensures.value
    c.put_row.ensures in
    came_table c.self.inside.mask (vec_capacity c.self.inside.entities) c.args.at c.self.inside.entities.items c.self.inside.columns.items c.self.invariant (omega arith) c.args.entity c.args.cells kinds c.swap.new.self.items (vec_capacity c.swap.new.self) _
    (c.swap.ensures.items ∙ ap (λ t. swap t c.args.at c.len-last.result) c.push_reserved.ensures.items ∙ swap_is c.self.inside.entities.items c.args.at c.len-last.result c.args.entity (omega arith) (omega (arith, c.len-last.ensures)))
    (c.swap.ensures.capacity ∙ c.push_reserved.ensures.capacity) made

pub returns-clause-rows : goal.returns-clause-rows
returns-clause-rows c =
    let n = ap (λ t. length t.rows) (sym c.self.view_is) ∙ length-rows_of c.self.inside.entities.items c.self.inside.columns.items c.self.invariant.long in
    let r = ap (λ t. t.capacity) c.self.view_is in
    let least_is = least_first (vec_capacity c.self.inside.entities) c.self.inside.columns.items in
    let some : 0 < vec_capacity c.self.inside.entities = omega arith in
    let fits = subst (λ (mask : ℕ). HasKinds mask (row_for c.args.entity c.args.cells)) (sym (ap (λ t. t.mask) c.self.view_is)) c.requires.fits in
    let kinds = kinds_as_columns c.self.inside.mask (row_for c.args.entity c.args.cells) c.self.inside.columns.items (c.self.invariant.kinds some) fits in
    let count = same_count c.args.cells c.self.inside.columns.items kinds in
    let made = put_back_lent c.self.inside.columns.len c.args.at c.args.cells c.self.inside.columns.items c.deref_mut.result.now c.put_row.new.columns (omega arith) count c.deref_mut.ensures.value
    c.put_row.ensures in
    came_rows c.self.inside.mask (vec_capacity c.self.inside.entities) c.args.at c.self.inside.entities.items c.self.inside.columns.items c.self.invariant (omega arith) c.args.entity c.args.cells kinds c.swap.new.self.items (vec_capacity c.swap.new.self) _
    (c.swap.ensures.items ∙ ap (λ t. swap t c.args.at c.len-last.result) c.push_reserved.ensures.items ∙ swap_is c.self.inside.entities.items c.args.at c.len-last.result c.args.entity (omega arith) (omega (arith, c.len-last.ensures)))
    (c.swap.ensures.capacity ∙ c.push_reserved.ensures.capacity) made
    ∙ ap (λ t. put_back t.rows c.args.at (row_for c.args.entity c.args.cells)) c.self.view_is

pub returns-clause-capacity : goal.returns-clause-capacity
returns-clause-capacity c =
    let n = ap (λ t. length t.rows) (sym c.self.view_is) ∙ length-rows_of c.self.inside.entities.items c.self.inside.columns.items c.self.invariant.long in
    let r = ap (λ t. t.capacity) c.self.view_is in
    let least_is = least_first (vec_capacity c.self.inside.entities) c.self.inside.columns.items in
    let some : 0 < vec_capacity c.self.inside.entities = omega arith in
    let fits = subst (λ (mask : ℕ). HasKinds mask (row_for c.args.entity c.args.cells)) (sym (ap (λ t. t.mask) c.self.view_is)) c.requires.fits in
    let kinds = kinds_as_columns c.self.inside.mask (row_for c.args.entity c.args.cells) c.self.inside.columns.items (c.self.invariant.kinds some) fits in
    let count = same_count c.args.cells c.self.inside.columns.items kinds in
    let made = put_back_lent c.self.inside.columns.len c.args.at c.args.cells c.self.inside.columns.items c.deref_mut.result.now c.put_row.new.columns (omega arith) count c.deref_mut.ensures.value
    c.put_row.ensures in
    came_least c.self.inside.mask (vec_capacity c.self.inside.entities) c.args.at c.self.inside.entities.items c.self.inside.columns.items c.self.invariant (omega arith) c.args.entity c.args.cells kinds c.swap.new.self.items (vec_capacity c.swap.new.self) _
    (c.swap.ensures.items ∙ ap (λ t. swap t c.args.at c.len-last.result) c.push_reserved.ensures.items ∙ swap_is c.self.inside.entities.items c.args.at c.len-last.result c.args.entity (omega arith) (omega (arith, c.len-last.ensures)))
    (c.swap.ensures.capacity ∙ c.push_reserved.ensures.capacity) made
    ∙ r
