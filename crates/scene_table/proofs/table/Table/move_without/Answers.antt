use Rattle.std.proofs.Common.{◌≡◌, ◌<◌, ◌≤◌, ◌∙◌, ℕ, List, length, get_or, take, drop, ◌++◌, ap, subst, sym, arith, Some}
use Rattle.std.specs.Prelude.{vec_capacity, slice_get, nat_eq}
use Rattle.std.specs.List.{position_from}
use Rattle.std.specs.Option.{option_map, option_flatten}
use Rattle.scene_kinds.specs.Cells.{cell_of}
use Rattle.scene_kinds.specs.KindSet.{has_kind, set_without}
use Rattle.scene_kinds.specs.declared.cells.Row.{Row}
use Rattle.scene_table.specs.Rows.{swap_out, put_back}
use Rattle.scene_table.specs.Columns.{ColumnState, AreCellsAt, HasRoomAt, put_each, rows_of, least}
use Rattle.scene_table.specs.Table.{cell_at, row_without_cell}
use Rattle.scene_table.proofs.TableRows.{length-rows_of}
use Rattle.scene_table.proofs.TableFacts.{IsRowAt, is_row_at, row_there, within_each, room_each, least_first}
use Rattle.scene_table.proofs.Moves.{IsLost, is_lost, has_column, HasLeft, has_left, HasCome, has_come}
use Rattle.scene_table.proofs.table.Table.move_without.Goals as goal
use Rattle.scene_table.proofs.table.Table.move_without.Goals.{After-deref_mut-2, After-move_entity}

-- the row stands among the entities
own : (c : After-deref_mut-2) → c.args.at < length c.self.inside.entities.items
own c =
    let n = ap (λ t. length t.rows) (sym c.self.view_is) ∙ length-rows_of c.self.inside.entities.items c.self.inside.columns.items c.self.invariant.long in
    omega arith

-- its place in the other table
place : (c : After-deref_mut-2) → c.args.to ≤ length c.target.inside.entities.items
place c =
    let n = ap (λ t. length t.rows) (sym c.target.view_is) ∙ length-rows_of c.target.inside.entities.items c.target.inside.columns.items c.target.invariant.long in
    omega arith

-- where there is room
room : (c : After-deref_mut-2) → length c.target.inside.entities.items < least (vec_capacity c.target.inside.entities) c.target.inside.columns.items
room c =
    let n = ap (λ t. length t.rows) (sym c.target.view_is) ∙ length-rows_of c.target.inside.entities.items c.target.inside.columns.items c.target.invariant.long in
    let r = ap (λ t. t.capacity) c.target.view_is in
    omega arith

-- the number of the column that the other table lacks
number : (c : After-deref_mut-2) → Some c.in-Some.number ≡ position_from (λ (x : ColumnState). nat_eq c.args.kind x.kind) 0 c.self.inside.columns.items
number c = c.in-Some.ensures ∙ ap (λ t. position_from (λ (x : ColumnState). nat_eq c.args.kind x.kind) 0 t) c.as_slice.ensures.value

-- what the row brings
lost : (c : After-deref_mut-2) (row : Row) → IsRowAt c.self.inside.entities.items c.self.inside.columns.items c.args.at row →
    IsLost c.self.inside.columns.items c.target.inside.columns.items c.in-Some.number c.args.kind row
lost c row there =
    let some : 0 < vec_capacity c.self.inside.entities = omega (arith, own c) in
    let wide : 0 < vec_capacity c.target.inside.entities = omega (arith, room c, least_first (vec_capacity c.target.inside.entities) c.target.inside.columns.items) in
    is_lost c.self.inside.mask c.target.inside.mask c.args.kind c.in-Some.number c.self.inside.entities.items c.self.inside.columns.items c.target.inside.columns.items c.args.at row there
    (c.self.invariant.kinds some row there.kinds) (omega arith) c.requires.low
    (ap (λ t. t.mask) c.target.view_is ∙ c.requires.kinds ∙ ap (λ t. set_without t.mask c.args.kind) (sym c.self.view_is)) (c.target.invariant.kinds wide) (number c)

pub unreachable-requires : goal.unreachable-requires
unreachable-requires c =
    let n = ap (λ t. length t.rows) (sym c.self.view_is) ∙ length-rows_of c.self.inside.entities.items c.self.inside.columns.items c.self.invariant.long in
    let missed = c.in-None.ensures ∙ ap (λ t. position_from (λ (x : ColumnState). nat_eq c.args.kind x.kind) 0 t) c.as_slice.ensures.value in
    let there = row_there c.self.inside.entities.items c.self.inside.columns.items c.args.at c.self.invariant.long (omega arith) in
    let some : 0 < vec_capacity c.self.inside.entities = omega arith in
    has_column c.self.inside.mask c.args.kind c.self.inside.entities.items c.self.inside.columns.items c.args.at there.0 there.1 (c.self.invariant.kinds some there.0 there.1.kinds)
    (ap (λ t. has_kind t.mask c.args.kind) c.self.view_is ∙ c.requires.has) missed

pub move_losing-cell-requires-clause-number : goal.move_losing-cell-requires-clause-number
move_losing-cell-requires-clause-number c =
    let there = row_there c.self.inside.entities.items c.self.inside.columns.items c.args.at c.self.invariant.long (own c) in
    let is = lost c there.0 there.1 in
    omega (arith, is.count, is.within, c.deref_mut-2.ensures.len)

pub move_losing-cell-requires-clause-count : goal.move_losing-cell-requires-clause-count
move_losing-cell-requires-clause-count c =
    let there = row_there c.self.inside.entities.items c.self.inside.columns.items c.args.at c.self.invariant.long (own c) in
    omega (arith, (lost c there.0 there.1).count, c.deref_mut.ensures.len, c.deref_mut-2.ensures.len)

pub move_losing-cell-requires-clause-within : goal.move_losing-cell-requires-clause-within
move_losing-cell-requires-clause-within c =
    subst (λ (cs : List ColumnState). (k : ℕ) (d : ColumnState) → k < length cs → c.args.at < length (get_or cs k d).cells) (sym c.deref_mut.ensures.value)
    (within_each c.self.inside.entities.items c.args.at c.self.inside.columns.items c.self.invariant.long (own c))

pub move_losing-cell-requires-clause-room : goal.move_losing-cell-requires-clause-room
move_losing-cell-requires-clause-room c =
    subst (λ (cs : List ColumnState). (k : ℕ) (d : ColumnState) → k < length cs → HasRoomAt c.args.to (get_or cs k d)) (sym c.deref_mut-2.ensures.value)
    (room_each c.target.inside.entities.items (vec_capacity c.target.inside.entities) c.args.to c.target.inside.columns.items c.target.invariant.long (place c) (room c))

pub move_entity-requires-clause-within : goal.move_entity-requires-clause-within
move_entity-requires-clause-within c = own (goal.at.move_entity-requires-clause-within c).After-deref_mut-2

pub move_entity-requires-clause-place : goal.move_entity-requires-clause-place
move_entity-requires-clause-place c = place (goal.at.move_entity-requires-clause-place c).After-deref_mut-2

pub move_entity-requires-clause-room : goal.move_entity-requires-clause-room
move_entity-requires-clause-room c =
    omega (arith, room (goal.at.move_entity-requires-clause-room c).After-deref_mut-2, least_first (vec_capacity c.target.inside.entities) c.target.inside.columns.items)

-- the table that the row left
went : (c : After-move_entity) → HasLeft c.self.inside.mask c.args.at (rows_of c.self.inside.entities.items c.self.inside.columns.items) (least (vec_capacity c.self.inside.entities) c.self.inside.columns.items)
    c.move_entity.new.source.items (vec_capacity c.move_entity.new.source) (take c.self.inside.columns.len (c.move_losing-cell.new.source ++ drop (length c.move_losing-cell.new.source) c.self.inside.columns.items))
went c =
    let n = ap (λ t. length t.rows) (sym c.self.view_is) ∙ length-rows_of c.self.inside.entities.items c.self.inside.columns.items c.self.invariant.long in
    has_left c.self.inside.mask (vec_capacity c.self.inside.entities) c.args.at c.self.inside.columns.len c.self.inside.entities.items c.self.inside.columns.items c.deref_mut.result.now c.move_losing-cell.new.source c.self.invariant
    (omega arith) (omega arith) c.deref_mut.ensures.value c.move_losing-cell.ensures.left c.move_entity.new.source.items (vec_capacity c.move_entity.new.source) c.move_entity.ensures.left c.move_entity.ensures.left_capacity

pub invariant_of-self : goal.invariant_of-self
invariant_of-self c = (went (goal.at.invariant_of-self c).After-move_entity).table

pub returns-clause-rows : goal.returns-clause-rows
returns-clause-rows c = (went (goal.at.returns-clause-rows c).After-move_entity).rows_are ∙ ap (λ t. swap_out t.rows c.args.at) c.self.view_is

pub returns-clause-capacity : goal.returns-clause-capacity
returns-clause-capacity c = (went (goal.at.returns-clause-capacity c).After-move_entity).room_is ∙ ap (λ t. t.capacity) c.self.view_is

pub returns-clause-behind : goal.returns-clause-behind
returns-clause-behind c = (went (goal.at.returns-clause-behind c).After-move_entity).behind

pub returns-clause-cell : goal.returns-clause-cell
returns-clause-cell c =
    let b = (goal.at.returns-clause-cell c).After-deref_mut-2 in
    let there = row_there c.self.inside.entities.items c.self.inside.columns.items c.args.at c.self.invariant.long (own b) in
    ap (λ t. cell_at t.rows c.args.at c.args.kind) (sym c.self.view_is)
    ∙ ap (λ o. option_flatten (option_map (λ (row : Row). cell_of row.cells c.args.kind) o)) there.1.stands
    ∙ (lost b there.0 there.1).found c.move_losing-cell.result (c.move_losing-cell.ensures.lost there.0.cells (subst (λ (cs : List ColumnState). AreCellsAt cs c.args.at there.0.cells) (sym c.deref_mut.ensures.value) there.1.cells_stand))

-- the table to which it came
came : (c : After-move_entity) (row : Row) → IsRowAt c.self.inside.entities.items c.self.inside.columns.items c.args.at row →
    IsLost c.self.inside.columns.items c.target.inside.columns.items c.in-Some.number c.args.kind row → length c.target.inside.entities.items < least (vec_capacity c.target.inside.entities) c.target.inside.columns.items →
    HasCome c.target.inside.mask c.args.to (row_without_cell row c.args.kind) (rows_of c.target.inside.entities.items c.target.inside.columns.items) (least (vec_capacity c.target.inside.entities) c.target.inside.columns.items)
    c.move_entity.new.target.items (vec_capacity c.move_entity.new.target) (take c.target.inside.columns.len (c.move_losing-cell.new.target ++ drop (length c.move_losing-cell.new.target) c.target.inside.columns.items))
came c row there is wide =
    has_come c.target.inside.mask (vec_capacity c.target.inside.entities) c.args.to c.target.inside.columns.len c.target.inside.entities.items c.target.inside.columns.items c.deref_mut-2.result.now c.move_losing-cell.new.target c.target.invariant wide
    (row_without_cell row c.args.kind) is.kinds (omega arith) c.deref_mut-2.ensures.value
    (c.move_losing-cell.ensures.put row.cells (subst (λ (cs : List ColumnState). AreCellsAt cs c.args.at row.cells) (sym c.deref_mut.ensures.value) there.cells_stand) ∙ ap (λ t. put_each c.args.to t c.deref_mut-2.result.now) is.removed)
    c.move_entity.new.target.items (vec_capacity c.move_entity.new.target) (c.move_entity.ensures.put row.entity there.entity_stands) c.move_entity.ensures.put_capacity

pub invariant_of-target : goal.invariant_of-target
invariant_of-target c =
    let b = (goal.at.invariant_of-target c).After-deref_mut-2 in
    let there = row_there c.self.inside.entities.items c.self.inside.columns.items c.args.at c.self.invariant.long (own b) in
    (came (goal.at.invariant_of-target c).After-move_entity there.0 there.1 (lost b there.0 there.1) (room b)).table

pub returns-clause-target_rows : goal.returns-clause-target_rows
returns-clause-target_rows c row is =
    let b = (goal.at.returns-clause-target_rows c).After-deref_mut-2 in
    let there = is_row_at c.self.inside.entities.items c.self.inside.columns.items c.args.at row (ap (λ t. slice_get t.rows c.args.at) c.self.view_is ∙ is) in
    (came (goal.at.returns-clause-target_rows c).After-move_entity row there (lost b row there) (room b)).rows_are ∙ ap (λ t. put_back t.rows c.args.to (row_without_cell row c.args.kind)) c.target.view_is

pub returns-clause-target_capacity : goal.returns-clause-target_capacity
returns-clause-target_capacity c =
    let b = (goal.at.returns-clause-target_capacity c).After-deref_mut-2 in
    let there = row_there c.self.inside.entities.items c.self.inside.columns.items c.args.at c.self.invariant.long (own b) in
    (came (goal.at.returns-clause-target_capacity c).After-move_entity there.0 there.1 (lost b there.0 there.1) (room b)).room_is ∙ ap (λ t. t.capacity) c.target.view_is
