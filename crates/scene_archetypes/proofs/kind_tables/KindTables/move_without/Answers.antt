use Rattle.std.proofs.Common.{◌≡◌, ◌<◌, ◌≤◌, ◌∙◌, ap, sym, subst, length, arith, refl, Some}
use Rattle.std.specs.Prelude.{slice_set, slice_get}
use Rattle.scene_kinds.specs.KindSet.{has_kind, set_without}
use Rattle.scene_kinds.specs.declared.cells.Row.{Row}
use Rattle.scene_table.specs.Rows.{swap_out, put_back}
use Rattle.scene_table.specs.Table.{row_without_cell, cell_at}
use Rattle.std.specs.Cmp.{nat_cmp_total}
use Rattle.std.specs.FinMap.{nat_cmp-IsAntisymmetric}
use Rattle.scene_kinds.proofs.Lists.{list_at_apart, list_at_same}
use Rattle.scene_table.specs.Tables.{rows_at, row_at, with_rows}
use Rattle.scene_archetypes.specs.KindTables.{StandsAt, IsKnown, entity_at, rooms_of}
use Rattle.scene_archetypes.proofs.RowKinds.{row_there}
use Rattle.scene_archetypes.proofs.Rooms.{IsThere, IsMoved, there, still_there, moved, home_known, room_known, lost_apart, now_held, few_left, few_come}
use Rattle.scene_archetypes.proofs.kind_tables.KindTables.move_without.Goals as goal

-- where the two tables stand, and that they are two
at_from : (c : goal.After-index_mut-2) → StandsAt c.self.inside.tables.items c.args.home.mask c.known_table-from.result
at_from c = subst (λ ts. StandsAt ts c.args.home.mask c.known_table-from.result) c.as_slice.ensures.value c.known_table-from.ensures

at_to : (c : goal.After-index_mut-2) → StandsAt c.self.inside.tables.items (set_without c.args.home.mask c.args.kind) c.known_table-to.result
at_to c = subst (λ ts. StandsAt ts (set_without c.args.home.mask c.args.kind) c.known_table-to.result) c.as_slice-2.ensures.value (subst (λ m. StandsAt c.as_slice-2.result.now m c.known_table-to.result) c.set_without.ensures c.known_table-to.ensures)

two : (c : goal.After-index_mut-2) → c.args.home.mask ≡ (set_without c.args.home.mask c.args.kind) → ⊥
two c = lost_apart c.args.home.mask c.args.kind (omega (arith, c.if-prove.false)) c.requires.low c.requires.has

from_there : (c : goal.After-index_mut-2) → IsThere c.args.self.now c.args.home.mask c.index_mut.result.now
from_there c = there c.self.inside.tables.items c.self.inside.tables.items c.args.self.now c.args.home.mask c.known_table-from.result c.index_mut.result.now c.self.view_is refl (at_from c) c.index_mut.ensures.value

to_there : (c : goal.After-index_mut-2) → IsThere c.args.self.now (set_without c.args.home.mask c.args.kind) c.index_mut-2.result.now
to_there c =
    still_there c.self.inside.tables.items c.self.inside.tables.items c.args.self.now c.args.home.mask (set_without c.args.home.mask c.args.kind) c.known_table-from.result c.known_table-to.result c.replace-source.new.dest c.index_mut-2.result.now
    c.self.view_is refl (two c) (at_from c) (at_to c) c.index_mut-2.ensures.value

pub known_table-from-requires-clause-known : goal.known_table-from-requires-clause-known
known_table-from-requires-clause-known c = home_known c.self.inside.tables.items c.as_slice.result.now c.args.self.now c.args.home c.self.view_is c.as_slice.ensures.value c.requires.within

pub known_table-to-requires-clause-known : goal.known_table-to-requires-clause-known
known_table-to-requires-clause-known c =
    subst (λ m. IsKnown (rooms_of c.as_slice-2.result.now) m) (sym c.set_without.ensures) (room_known c.self.inside.tables.items c.as_slice-2.result.now c.args.self.now (set_without c.args.home.mask c.args.kind) c.self.view_is c.as_slice-2.ensures.value c.requires.room)

pub move_without-moved-requires-clause-within : goal.move_without-moved-requires-clause-within
move_without-moved-requires-clause-within c = subst (λ rows. c.args.home.place < length rows) ((from_there c).rows ∙ ap (λ t. t.rows) (sym c.replace-source.ensures.value)) c.requires.within

pub move_without-moved-requires-clause-place : goal.move_without-moved-requires-clause-place
move_without-moved-requires-clause-place c = subst (λ rows. c.args.place ≤ length rows) (to_there c).rows c.requires.place

pub move_without-moved-requires-clause-has : goal.move_without-moved-requires-clause-has
move_without-moved-requires-clause-has c = ap (λ m. has_kind m c.args.kind) (ap (λ t. t.mask) c.replace-source.ensures.value ∙ (from_there c).named) ∙ c.requires.has

pub move_without-moved-requires-clause-kinds : goal.move_without-moved-requires-clause-kinds
move_without-moved-requires-clause-kinds c = (to_there c).named ∙ ap (λ m. set_without m c.args.kind) (sym (ap (λ t. t.mask) c.replace-source.ensures.value ∙ (from_there c).named))

pub move_without-moved-requires-clause-room : goal.move_without-moved-requires-clause-room
move_without-moved-requires-clause-room c = omega (arith, c.requires.room, ap length (to_there c).rows, (to_there c).capacity)

-- a row stands at the home, and the tables after it moved
the_row : (c : goal.After-drop-index_mut) → (row : Row) × (row_at c.args.self.now.tables c.args.home ≡ Some row)
the_row c = row_there c.args.self.now.tables c.args.home c.requires.within

after : (c : goal.After-drop-index_mut) → (row : Row) → row_at c.args.self.now.tables c.args.home ≡ Some row →
    IsMoved c.self.inside.kind_sets.keys c.args.self.now (slice_set (slice_set (slice_set c.self.inside.tables.items c.known_table-from.result c.replace-source.new.dest) c.known_table-to.result c.move_without-moved.new.target) c.known_table-from.result c.move_without-moved.new.source)
    c.args.home.mask (swap_out (rows_at c.args.self.now.tables c.args.home.mask) c.args.home.place) (set_without c.args.home.mask c.args.kind) (put_back (rows_at c.args.self.now.tables (set_without c.args.home.mask c.args.kind)) c.args.place (row_without_cell row c.args.kind))
after c row at =
    let ts = c.self.inside.tables.items in
    let was = c.index_mut.result.now in
    let stands = subst (λ us. StandsAt us c.args.home.mask c.known_table-from.result) c.as_slice.ensures.value c.known_table-from.ensures in
    let stands_to = subst (λ us. StandsAt us (set_without c.args.home.mask c.args.kind) c.known_table-to.result) c.as_slice-2.ensures.value (subst (λ m. StandsAt c.as_slice-2.result.now m c.known_table-to.result) c.set_without.ensures c.known_table-to.ensures) in
    let two = lost_apart c.args.home.mask c.args.kind (omega (arith, c.if-prove.false)) c.requires.low c.requires.has in
    let from = there ts ts c.args.self.now c.args.home.mask c.known_table-from.result was c.self.view_is refl stands c.index_mut.ensures.value in
    let to = still_there ts ts c.args.self.now c.args.home.mask (set_without c.args.home.mask c.args.kind) c.known_table-from.result c.known_table-to.result c.replace-source.new.dest c.index_mut-2.result.now c.self.view_is refl two stands stands_to c.index_mut-2.ensures.value in
    let source = c.replace-source.ensures.value in
    let rows : rows_at c.args.self.now.tables c.args.home.mask ≡ c.replace-source.result.rows = from.rows ∙ ap (λ u. u.rows) (sym source) in
    moved c.self.inside.kind_sets.keys ts ts c.args.self.now c.args.home.mask (set_without c.args.home.mask c.args.kind) c.known_table-from.result c.known_table-to.result c.replace-source.new.dest was c.move_without-moved.new.source c.index_mut-2.result.now c.move_without-moved.new.target
    (swap_out (rows_at c.args.self.now.tables c.args.home.mask) c.args.home.place) (put_back (rows_at c.args.self.now.tables (set_without c.args.home.mask c.args.kind)) c.args.place (row_without_cell row c.args.kind))
    c.self.view_is refl two stands stands_to c.self.invariant c.index_mut.ensures.value (c.move_without-moved.ensures.mask ∙ ap (λ u. u.mask) source) (c.move_without-moved.ensures.rows ∙ ap (λ r. swap_out r c.args.home.place) (sym rows)) (c.move_without-moved.ensures.capacity ∙ ap (λ u. u.capacity) source)
    c.index_mut-2.ensures.value c.move_without-moved.ensures.target_mask (c.move_without-moved.ensures.target_rows row (ap (λ r. slice_get r c.args.home.place) (sym rows) ∙ at) ∙ ap (λ r. put_back r c.args.place (row_without_cell row c.args.kind)) (sym to.rows))
    c.move_without-moved.ensures.target_capacity (few_left c.args.self.now.rooms c.args.self.now.tables c.args.home (now_held c.self.inside.tables.items c.args.self.now c.self.view_is c.self.invariant.room) c.requires.within) (few_come c.args.self.now.rooms c.args.self.now.tables (set_without c.args.home.mask c.args.kind) c.args.place (row_without_cell row c.args.kind) c.requires.room)

pub invariant_of-self : goal.invariant_of-self
invariant_of-self c = (after c (the_row c).0 (the_row c).1).sound

pub returns-clause-tables : goal.returns-clause-tables
returns-clause-tables c = λ row at. (after c row at).tables

pub returns-clause-rooms : goal.returns-clause-rooms
returns-clause-rooms c = (after c (the_row c).0 (the_row c).1).rooms

pub returns-clause-cell : goal.returns-clause-cell
returns-clause-cell c =
    let from = there c.self.inside.tables.items c.as_slice.result.now c.args.self.now c.args.home.mask c.known_table-from.result c.index_mut.result.now c.self.view_is c.as_slice.ensures.value c.known_table-from.ensures c.index_mut.ensures.value in
    ap (λ r. cell_at r c.args.home.place c.args.kind) (from.rows ∙ ap (λ u. u.rows) (sym c.replace-source.ensures.value)) ∙ c.move_without-moved.ensures.cell

pub returns-clause-moved : goal.returns-clause-moved
returns-clause-moved c =
    let ts = c.self.inside.tables.items in
    let t = c.args.self.now.tables in
    let a = c.args.home.mask in
    let b = set_without c.args.home.mask c.args.kind in
    let left = swap_out (rows_at t a) c.args.home.place in
    let row = the_row c in
    let come = put_back (rows_at t b) c.args.place (row_without_cell row.0 c.args.kind) in
    let moved = c.move_without-moved.ensures.moved in
    let stands = subst (λ us. StandsAt us a c.known_table-from.result) c.as_slice.ensures.value c.known_table-from.ensures in
    let stands_to = subst (λ us. StandsAt us b c.known_table-to.result) c.as_slice-2.ensures.value (subst (λ m. StandsAt c.as_slice-2.result.now m c.known_table-to.result) c.set_without.ensures c.known_table-to.ensures) in
    let two = lost_apart c.args.home.mask c.args.kind (omega (arith, c.if-prove.false)) c.requires.low c.requires.has in
    let from = there ts ts c.args.self.now a c.known_table-from.result c.index_mut.result.now c.self.view_is refl stands c.index_mut.ensures.value in
    let to = still_there ts ts c.args.self.now a b c.known_table-from.result c.known_table-to.result c.replace-source.new.dest c.index_mut-2.result.now c.self.view_is refl two stands stands_to c.index_mut-2.ensures.value in
    let source = from.rows ∙ ap (λ u. u.rows) (sym c.replace-source.ensures.value) in
    let there : rows_at (with_rows (with_rows t a left) b come) a ≡ left =
    list_at_apart nat_cmp_total nat_cmp-IsAntisymmetric (with_rows t a left) b a come two ∙ list_at_same nat_cmp_total t a left in
    record {
      displaced = moved.displaced ∙ ap (λ rs. entity_at rs c.args.place) (sym to.rows);
      last = moved.last ∙ ap length (sym to.rows);
      came = moved.came ∙ ap (λ rs. entity_at rs c.args.home.place) (c.move_without-moved.ensures.rows ∙ ap (λ r. swap_out r c.args.home.place) (sym source) ∙ sym there)
          ∙ ap (λ u. entity_at (rows_at u a) c.args.home.place) (sym (after c row.0 row.1).tables);
    }
