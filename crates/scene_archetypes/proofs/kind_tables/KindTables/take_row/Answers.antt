use Rattle.std.proofs.Common.{◌<◌, ◌∙◌, ap, sym, subst, length}
use Rattle.std.specs.Prelude.{slice_get, slice_set}
use Rattle.scene_table.specs.Rows.{swap_out}
use Rattle.std.specs.Cmp.{nat_cmp_total}
use Rattle.scene_kinds.proofs.Lists.{list_at_same}
use Rattle.scene_table.specs.Tables.{rows_at}
use Rattle.scene_archetypes.specs.KindTables.{IsRoomFor, entity_at}
use Rattle.scene_archetypes.proofs.Rooms.{IsThere, IsStep, there, step, home_known, now_held, few_left}
use Rattle.scene_archetypes.proofs.kind_tables.KindTables.take_row.Goals as goal

-- the table, and the tables after it
here : (c : goal.After-index_mut) → IsThere c.args.self.now c.args.home.mask c.index_mut.result.now
here c = there c.self.inside.tables.items c.as_slice.result.now c.args.self.now c.args.home.mask c.known_table-at.result c.index_mut.result.now c.self.view_is c.as_slice.ensures.value c.known_table-at.ensures c.index_mut.ensures.value

after : (c : goal.After-self-1) → IsStep c.self.inside.kind_sets.keys c.args.self.now (slice_set c.self.inside.tables.items c.known_table-at.result c.take_row.new.table) c.args.home.mask (swap_out (rows_at c.args.self.now.tables c.args.home.mask) c.args.home.place)
after c =
    let there = there c.self.inside.tables.items c.as_slice.result.now c.args.self.now c.args.home.mask c.known_table-at.result c.index_mut.result.now c.self.view_is c.as_slice.ensures.value c.known_table-at.ensures c.index_mut.ensures.value in
    step c.self.inside.kind_sets.keys c.self.inside.tables.items c.as_slice.result.now c.args.self.now c.args.home.mask c.known_table-at.result c.index_mut.result.now c.take_row.new.table (swap_out (rows_at c.args.self.now.tables c.args.home.mask) c.args.home.place) c.self.view_is c.as_slice.ensures.value c.known_table-at.ensures c.index_mut.ensures.value c.self.invariant c.take_row.ensures.mask (c.take_row.ensures.rows ∙ ap (λ rows. swap_out rows c.args.home.place) (sym there.rows))
    c.take_row.ensures.capacity (few_left c.args.self.now.rooms c.args.self.now.tables c.args.home (now_held c.self.inside.tables.items c.args.self.now c.self.view_is c.self.invariant.room) c.requires)

pub known_table-at-requires-clause-known : goal.known_table-at-requires-clause-known
known_table-at-requires-clause-known c = home_known c.self.inside.tables.items c.as_slice.result.now c.args.self.now c.args.home c.self.view_is c.as_slice.ensures.value c.requires

pub room_for-requires : goal.room_for-requires
room_for-requires c = subst (λ rows. c.args.home.place < length rows)
    (there c.self.inside.tables.items c.as_slice.result.now c.args.self.now c.args.home.mask c.known_table-at.result c.index.result.now c.self.view_is c.as_slice.ensures.value c.known_table-at.ensures c.index.ensures).rows c.requires

pub take_row-requires-clause-within : goal.take_row-requires-clause-within
take_row-requires-clause-within c = subst (λ rows. c.args.home.place < length rows) (here c).rows c.requires

pub take_row-requires-clause-room : goal.take_row-requires-clause-room
take_row-requires-clause-room c =
    let seen = (there c.self.inside.tables.items c.as_slice.result.now c.args.self.now c.args.home.mask c.known_table-at.result c.index.result.now c.self.view_is c.as_slice.ensures.value c.known_table-at.ensures c.index.ensures).rows in
    subst (λ rows. IsRoomFor rows c.args.home.place c.in_ok-room.room) (sym seen ∙ (here c).rows) c.in_ok-room.ensures

pub invariant_of-self : goal.invariant_of-self
invariant_of-self c = (after c).sound

pub returns-clause-row : goal.returns-clause-row
returns-clause-row c = ap (λ rows. slice_get rows c.args.home.place) (there c.self.inside.tables.items c.as_slice.result.now c.args.self.now c.args.home.mask c.known_table-at.result c.index_mut.result.now c.self.view_is c.as_slice.ensures.value c.known_table-at.ensures c.index_mut.ensures.value).rows ∙ c.take_row.ensures.row

pub returns-clause-ok : goal.returns-clause-ok
returns-clause-ok c = (after c).tables

pub returns-clause-rooms : goal.returns-clause-rooms
returns-clause-rooms c = (after c).rooms

pub returns-clause-came : goal.returns-clause-came
returns-clause-came c =
    let t = c.args.self.now.tables in
    let left = swap_out (rows_at t c.args.home.mask) c.args.home.place in
    let rows = (there c.self.inside.tables.items c.as_slice.result.now c.args.self.now c.args.home.mask c.known_table-at.result c.index_mut.result.now c.self.view_is c.as_slice.ensures.value c.known_table-at.ensures c.index_mut.ensures.value).rows in
    c.take_row.ensures.came ∙ ap (λ rs. entity_at rs c.args.home.place) (c.take_row.ensures.rows ∙ ap (λ rs. swap_out rs c.args.home.place) (sym rows)
    ∙ sym (list_at_same nat_cmp_total t c.args.home.mask left)) ∙ ap (λ u. entity_at (rows_at u c.args.home.mask) c.args.home.place) (sym (after c).tables)
