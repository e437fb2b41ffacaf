use Rattle.std.proofs.Common.{◌≤◌, ◌∙◌, ap, subst, length, arith}
use Rattle.scene_table.specs.Tables.{rows_at}
use Rattle.scene_archetypes.specs.KindTables.{capacity_at}
use Rattle.scene_archetypes.proofs.Stored.{tables_of_same}
use Rattle.scene_archetypes.proofs.Rooms.{there, listed_kept, room_grown, wide_grown, held_grown}
use Rattle.scene_archetypes.proofs.kind_tables.KindTables.reserve.Goals as goal

pub invariant_of-self : goal.invariant_of-self
invariant_of-self c =
    let mask = c.reserve.ensures.mask ∙ ap (λ t. t.mask) c.index_mut.ensures.value in
    record {
      listed = listed_kept c.self.inside.kind_sets.keys c.self.inside.tables.items c.known_table-at.result c.index_mut.result.now c.reserve.new.self mask c.self.invariant.listed;
      room = held_grown c.self.inside.tables.items c.known_table-at.result c.index_mut.result.now c.reserve.new.self mask (c.reserve.ensures.rows ∙ ap (λ t. t.rows) c.index_mut.ensures.value)
          (subst (λ d. d.capacity ≤ c.reserve.new.self.capacity) c.index_mut.ensures.value c.reserve.ensures.wide) c.self.invariant.room;
    }

pub returns-clause-tables : goal.returns-clause-tables
returns-clause-tables c =
    tables_of_same c.self.inside.tables.items c.known_table-at.result c.index_mut.result.now c.reserve.new.self (c.reserve.ensures.mask ∙ ap (λ t. t.mask) c.index_mut.ensures.value) (c.reserve.ensures.rows ∙ ap (λ t. t.rows) c.index_mut.ensures.value)
    ∙ ap (λ t. t.tables) c.self.view_is ∙ c.make_table.ensures.tables

pub returns-clause-room : goal.returns-clause-room
returns-clause-room c =
    room_grown c.reserve.result c.self.inside.tables.items c.as_slice.result.now c.args.mask c.known_table-at.result c.index_mut.result.now c.reserve.new.self c.as_slice.ensures.value c.known_table-at.ensures
    (c.reserve.ensures.mask ∙ ap (λ t. t.mask) c.index_mut.ensures.value) c.reserve.ensures.room

pub returns-clause-there : goal.returns-clause-there
returns-clause-there c = λ room.
    let here = there c.self.inside.tables.items c.as_slice.result.now c.make_table.new.self c.args.mask c.known_table-at.result c.index_mut.result.now c.self.view_is c.as_slice.ensures.value c.known_table-at.ensures c.index_mut.ensures.value in
    let rows = ap (λ t. length (rows_at t c.args.mask)) c.make_table.ensures.tables in
    let wide = c.make_table.ensures.wide c.args.mask in
    c.reserve.ensures.there (omega (arith, room, rows, wide, ap length here.rows, here.capacity))

pub returns-clause-wide : goal.returns-clause-wide
returns-clause-wide c = λ mask.
    let before = c.make_table.ensures.wide mask in
    let here = ap (λ t. capacity_at t.rooms mask) c.self.view_is in
    let after = wide_grown c.self.inside.tables.items c.known_table-at.result c.index_mut.result.now c.reserve.new.self (c.reserve.ensures.mask ∙ ap (λ t. t.mask) c.index_mut.ensures.value) (subst (λ d. d.capacity ≤ c.reserve.new.self.capacity) c.index_mut.ensures.value c.reserve.ensures.wide) mask in
    omega (arith, before, here, after)
