use Rattle.std.proofs.Common.{◌≤◌, ◌∙◌, ap, sym, subst, length, arith}
use Rattle.std.specs.Prelude.{slice_set}
use Rattle.scene_kinds.specs.Cells.{HasKinds}
use Rattle.scene_table.specs.Rows.{put_back}
use Rattle.scene_table.specs.Tables.{rows_at, row_for}
use Rattle.scene_archetypes.specs.KindTables.{entity_at}
use Rattle.scene_archetypes.proofs.Rooms.{IsThere, IsStep, there, step, room_known, few_come}
use Rattle.scene_archetypes.proofs.kind_tables.KindTables.put_back.Goals as goal

-- the table, and the tables after it
here : (c : goal.After-index_mut) → IsThere c.args.self.now c.args.mask c.index_mut.result.now
here c = there c.self.inside.tables.items c.as_slice.result.now c.args.self.now c.args.mask c.known_table-at.result c.index_mut.result.now c.self.view_is c.as_slice.ensures.value c.known_table-at.ensures c.index_mut.ensures.value

after : (c : goal.After-self-1) → IsStep c.self.inside.kind_sets.keys c.args.self.now (slice_set c.self.inside.tables.items c.known_table-at.result c.put_row.new.table) c.args.mask (put_back (rows_at c.args.self.now.tables c.args.mask) c.args.place (row_for c.args.entity c.args.cells))
after c =
    let there = there c.self.inside.tables.items c.as_slice.result.now c.args.self.now c.args.mask c.known_table-at.result c.index_mut.result.now c.self.view_is c.as_slice.ensures.value c.known_table-at.ensures c.index_mut.ensures.value in
    step c.self.inside.kind_sets.keys c.self.inside.tables.items c.as_slice.result.now c.args.self.now c.args.mask c.known_table-at.result c.index_mut.result.now c.put_row.new.table (put_back (rows_at c.args.self.now.tables c.args.mask) c.args.place (row_for c.args.entity c.args.cells)) c.self.view_is c.as_slice.ensures.value c.known_table-at.ensures c.index_mut.ensures.value c.self.invariant c.put_row.ensures.mask (c.put_row.ensures.rows ∙ ap (λ rows. put_back rows c.args.place (row_for c.args.entity c.args.cells)) (sym there.rows))
    c.put_row.ensures.capacity (few_come c.args.self.now.rooms c.args.self.now.tables c.args.mask c.args.place (row_for c.args.entity c.args.cells) c.requires.room)

pub known_table-at-requires-clause-known : goal.known_table-at-requires-clause-known
known_table-at-requires-clause-known c = room_known c.self.inside.tables.items c.as_slice.result.now c.args.self.now c.args.mask c.self.view_is c.as_slice.ensures.value c.requires.room

pub put_row-requires-clause-within : goal.put_row-requires-clause-within
put_row-requires-clause-within c = subst (λ rows. c.args.place ≤ length rows) (here c).rows c.requires.within

pub put_row-requires-clause-fits : goal.put_row-requires-clause-fits
put_row-requires-clause-fits c = subst (λ m. HasKinds m (row_for c.args.entity c.args.cells)) (sym (here c).named) c.requires.fits

pub put_row-requires-clause-room : goal.put_row-requires-clause-room
put_row-requires-clause-room c = omega (arith, c.requires.room, ap length (here c).rows, (here c).capacity)

pub invariant_of-self : goal.invariant_of-self
invariant_of-self c = (after c).sound

pub returns-clause-tables : goal.returns-clause-tables
returns-clause-tables c = (after c).tables

pub returns-clause-rooms : goal.returns-clause-rooms
returns-clause-rooms c = (after c).rooms

pub returns-clause-displaced : goal.returns-clause-displaced
returns-clause-displaced c =
    let rows = (there c.self.inside.tables.items c.as_slice.result.now c.args.self.now c.args.mask c.known_table-at.result c.index_mut.result.now c.self.view_is c.as_slice.ensures.value c.known_table-at.ensures c.index_mut.ensures.value).rows in
    c.put_row.ensures.displaced ∙ ap (λ rs. entity_at rs c.args.place) (sym rows)

pub returns-clause-last : goal.returns-clause-last
returns-clause-last c =
    let rows = (there c.self.inside.tables.items c.as_slice.result.now c.args.self.now c.args.mask c.known_table-at.result c.index_mut.result.now c.self.view_is c.as_slice.ensures.value c.known_table-at.ensures c.index_mut.ensures.value).rows in
    c.put_row.ensures.last ∙ ap length (sym rows)
