use Rattle.std.proofs.Common.{◌<◌, ◌≤◌, ◌∙◌, ℕ, List, length, get_or, take, drop, ◌++◌, ap, subst, sym, arith}
use Rattle.std.specs.Prelude.{vec_capacity, slice_get}
use Rattle.scene_kinds.specs.KindSet.{has_kind, set_with}
use Rattle.scene_kinds.specs.declared.cells.Row.{Row}
use Rattle.scene_table.specs.Rows.{swap_out, put_back}
use Rattle.scene_table.specs.Columns.{ColumnState, AreCellsAt, HasRoomAt, kinds_of, put_each, rows_of, least}
use Rattle.scene_table.specs.Table.{row_with_cell}
use Rattle.scene_table.proofs.TableRows.{length-rows_of}
use Rattle.scene_table.proofs.TableFacts.{IsRowAt, is_row_at, row_there, within_each, room_each, least_first}
use Rattle.scene_table.proofs.Moves.{IsGained, is_gained, HasLeft, has_left, HasCome, has_come}
use Rattle.scene_table.proofs.table.Table.move_with.Goals as goal
use Rattle.scene_table.proofs.table.Table.move_with.Goals.{After-deref_mut-2, After-move_entity}

-- the row stands among the entities
own : (c : After-deref_mut-2) → c.args.at < length c.self.inside.entities.items
own c =
    let n = ap (λ t. length t.rows) (sym c.self.view_is) ∙ length-rows_of c.self.inside.entities.items c.self.inside.columns.items c.self.invariant.long in
    omega arith

-- its place in the other table
place : (c : After-deref_mut-2) → c.args.to ≤ length c.target.inside.entities.items
place c =
    let n = ap (λ t. length t.rows) (sym c.target.view_is) ∙ length-rows_of c.target.inside.entities.items c.target.inside.columns.items c.target.invariant.long in
    omega arith

-- where there is room
room : (c : After-deref_mut-2) → length c.target.inside.entities.items < least (vec_capacity c.target.inside.entities) c.target.inside.columns.items
room c =
    let n = ap (λ t. length t.rows) (sym c.target.view_is) ∙ length-rows_of c.target.inside.entities.items c.target.inside.columns.items c.target.invariant.long in
    let r = ap (λ t. t.capacity) c.target.view_is in
    omega arith

-- what the row brings
gained : (c : After-deref_mut-2) (row : Row) → IsRowAt c.self.inside.entities.items c.self.inside.columns.items c.args.at row →
    IsGained c.self.inside.columns.items c.target.inside.columns.items c.number_for-number.result c.args.kind c.args.cell row
gained c row there =
    let some : 0 < vec_capacity c.self.inside.entities = omega (arith, own c) in
    let wide : 0 < vec_capacity c.target.inside.entities = omega (arith, room c, least_first (vec_capacity c.target.inside.entities) c.target.inside.columns.items) in
    is_gained c.self.inside.mask c.target.inside.mask c.args.kind c.number_for-number.result c.args.cell c.self.inside.entities.items c.self.inside.columns.items c.target.inside.columns.items c.args.at row there
    (c.self.invariant.kinds some row there.kinds) (ap (λ t. has_kind t.mask c.args.kind) c.self.view_is ∙ c.requires.lacks)
    (ap (λ t. t.mask) c.target.view_is ∙ c.requires.kinds ∙ ap (λ t. set_with t.mask c.args.kind) (sym c.self.view_is)) (c.target.invariant.kinds wide)
    (omega (arith, c.number_for-number.ensures.within, ap length c.as_slice.ensures.value)) (λ cells cell e. c.number_for-number.ensures.goes cells cell (e ∙ ap kinds_of (sym c.as_slice.ensures.value)))

pub move_gaining-requires-clause-count : goal.move_gaining-requires-clause-count
move_gaining-requires-clause-count c =
    let there = row_there c.self.inside.entities.items c.self.inside.columns.items c.args.at c.self.invariant.long (own c) in
    omega (arith, (gained c there.0 there.1).count, c.deref_mut.ensures.len, c.deref_mut-2.ensures.len)

pub move_gaining-requires-clause-within : goal.move_gaining-requires-clause-within
move_gaining-requires-clause-within c =
    subst (λ (cs : List ColumnState). (k : ℕ) (d : ColumnState) → k < length cs → c.args.at < length (get_or cs k d).cells) (sym c.deref_mut.ensures.value)
    (within_each c.self.inside.entities.items c.args.at c.self.inside.columns.items c.self.invariant.long (own c))

pub move_gaining-requires-clause-room : goal.move_gaining-requires-clause-room
move_gaining-requires-clause-room c =
    subst (λ (cs : List ColumnState). (k : ℕ) (d : ColumnState) → k < length cs → HasRoomAt c.args.to (get_or cs k d)) (sym c.deref_mut-2.ensures.value)
    (room_each c.target.inside.entities.items (vec_capacity c.target.inside.entities) c.args.to c.target.inside.columns.items c.target.invariant.long (place c) (room c))

pub move_entity-requires-clause-within : goal.move_entity-requires-clause-within
move_entity-requires-clause-within c = own (goal.at.move_entity-requires-clause-within c).After-deref_mut-2

pub move_entity-requires-clause-place : goal.move_entity-requires-clause-place
move_entity-requires-clause-place c = place (goal.at.move_entity-requires-clause-place c).After-deref_mut-2

pub move_entity-requires-clause-room : goal.move_entity-requires-clause-room
move_entity-requires-clause-room c =
    omega (arith, room (goal.at.move_entity-requires-clause-room c).After-deref_mut-2, least_first (vec_capacity c.target.inside.entities) c.target.inside.columns.items)

-- the table that the row left
went : (c : After-move_entity) → HasLeft c.self.inside.mask c.args.at (rows_of c.self.inside.entities.items c.self.inside.columns.items) (least (vec_capacity c.self.inside.entities) c.self.inside.columns.items)
    c.move_entity.new.source.items (vec_capacity c.move_entity.new.source) (take c.self.inside.columns.len (c.move_gaining.new.source ++ drop (length c.move_gaining.new.source) c.self.inside.columns.items))
went c =
    let n = ap (λ t. length t.rows) (sym c.self.view_is) ∙ length-rows_of c.self.inside.entities.items c.self.inside.columns.items c.self.invariant.long in
    has_left c.self.inside.mask (vec_capacity c.self.inside.entities) c.args.at c.self.inside.columns.len c.self.inside.entities.items c.self.inside.columns.items c.deref_mut.result.now c.move_gaining.new.source c.self.invariant
    (omega arith) (omega arith) c.deref_mut.ensures.value c.move_gaining.ensures.left c.move_entity.new.source.items (vec_capacity c.move_entity.new.source) c.move_entity.ensures.left c.move_entity.ensures.left_capacity

pub invariant_of-self : goal.invariant_of-self
invariant_of-self c = (went (goal.at.invariant_of-self c).After-move_entity).table

pub returns-clause-rows : goal.returns-clause-rows
returns-clause-rows c = (went (goal.at.returns-clause-rows c).After-move_entity).rows_are ∙ ap (λ t. swap_out t.rows c.args.at) c.self.view_is

pub returns-clause-capacity : goal.returns-clause-capacity
returns-clause-capacity c = (went (goal.at.returns-clause-capacity c).After-move_entity).room_is ∙ ap (λ t. t.capacity) c.self.view_is

pub returns-clause-behind : goal.returns-clause-behind
returns-clause-behind c = (went (goal.at.returns-clause-behind c).After-move_entity).behind

-- the table to which it came
came : (c : After-move_entity) (row : Row) → IsRowAt c.self.inside.entities.items c.self.inside.columns.items c.args.at row →
    IsGained c.self.inside.columns.items c.target.inside.columns.items c.number_for-number.result c.args.kind c.args.cell row →
    length c.target.inside.entities.items < least (vec_capacity c.target.inside.entities) c.target.inside.columns.items → HasCome c.target.inside.mask c.args.to (row_with_cell row c.args.kind c.args.cell) (rows_of c.target.inside.entities.items c.target.inside.columns.items) (least (vec_capacity c.target.inside.entities) c.target.inside.columns.items)
    c.move_entity.new.target.items (vec_capacity c.move_entity.new.target) (take c.target.inside.columns.len (c.move_gaining.new.target ++ drop (length c.move_gaining.new.target) c.target.inside.columns.items))
came c row there is wide =
    has_come c.target.inside.mask (vec_capacity c.target.inside.entities) c.args.to c.target.inside.columns.len c.target.inside.entities.items c.target.inside.columns.items c.deref_mut-2.result.now c.move_gaining.new.target c.target.invariant wide
    (row_with_cell row c.args.kind c.args.cell) is.kinds (omega arith) c.deref_mut-2.ensures.value
    (c.move_gaining.ensures.put row.cells c.args.kind (subst (λ (cs : List ColumnState). AreCellsAt cs c.args.at row.cells) (sym c.deref_mut.ensures.value) there.cells_stand) ∙ ap (λ t. put_each c.args.to t c.deref_mut-2.result.now) is.inserted)
    c.move_entity.new.target.items (vec_capacity c.move_entity.new.target) (c.move_entity.ensures.put row.entity there.entity_stands) c.move_entity.ensures.put_capacity

pub invariant_of-target : goal.invariant_of-target
invariant_of-target c =
    let b = (goal.at.invariant_of-target c).After-deref_mut-2 in
    let there = row_there c.self.inside.entities.items c.self.inside.columns.items c.args.at c.self.invariant.long (own b) in
    (came (goal.at.invariant_of-target c).After-move_entity there.0 there.1 (gained b there.0 there.1) (room b)).table

pub returns-clause-target_rows : goal.returns-clause-target_rows
returns-clause-target_rows c row is =
    let b = (goal.at.returns-clause-target_rows c).After-deref_mut-2 in
    let there = is_row_at c.self.inside.entities.items c.self.inside.columns.items c.args.at row (ap (λ t. slice_get t.rows c.args.at) c.self.view_is ∙ is) in
    (came (goal.at.returns-clause-target_rows c).After-move_entity row there (gained b row there) (room b)).rows_are ∙ ap (λ t. put_back t.rows c.args.to (row_with_cell row c.args.kind c.args.cell)) c.target.view_is

pub returns-clause-target_capacity : goal.returns-clause-target_capacity
returns-clause-target_capacity c =
    let b = (goal.at.returns-clause-target_capacity c).After-deref_mut-2 in
    let there = row_there c.self.inside.entities.items c.self.inside.columns.items c.args.at c.self.invariant.long (own b) in
    (came (goal.at.returns-clause-target_capacity c).After-move_entity there.0 there.1 (gained b there.0 there.1) (room b)).room_is ∙ ap (λ t. t.capacity) c.target.view_is
