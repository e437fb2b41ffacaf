use Rattle.std.proofs.Common.{◌≡◌, ◌∙◌, ap, sym, subst, refl}
use Rattle.std.specs.Prelude.{IfSome}
use Rattle.scene_kinds.specs.declared.cells.Row.{Row}
use Rattle.std.proofs.Common.{◌≤◌, ◌<◌, length, arith, Some}
use Rattle.std.proofs.lemmas.Option.{same_Some}
use Rattle.scene_kinds.specs.Cells.{mask_of}
use Rattle.scene_kinds.specs.KindSet.{set_without}
use Rattle.scene_kinds.proofs.KindSets.{mask_of-without_cell}
use Rattle.scene_table.specs.Rows.{put_back}
use Rattle.scene_table.specs.Table.{row_without_cell}
use Rattle.scene_table.specs.Tables.{rows_at, row_at, without_row, with_row_back, StandsIn}
use Rattle.scene_archetypes.specs.Archetypes.{AreHomes, homes_come}
use Rattle.scene_archetypes.proofs.Rooms.{lost_apart}
use Rattle.scene_archetypes.proofs.WrittenHomes.{row_standing, entity_within, some_within, came_within, length_left, row_apart, moved_homes}
use Rattle.scene_archetypes.proofs.archetypes.Archetypes.move_without.Goals as goal

-- the row at the home, and all that the move does to it
mask_is : (c : goal.After-write_come) → (row : Row) → row_at c.args.self.now.tables c.args.home ≡ Some row → (set_without c.args.home.mask c.args.kind) ≡ mask_of (row_without_cell row c.args.kind).cells
mask_is c row at = let has = c.requires.kinds row at in sym (mask_of-without_cell row.cells c.args.kind has.0.ascending has.1 c.requires.low ∙ ap (λ m. set_without m c.args.kind) has.0.kinds)

after : (c : goal.After-write_come) → (row : Row) → row_at c.args.self.now.tables c.args.home ≡ Some row
    → (c.move_without-cell.new.self.tables ≡ with_row_back (without_row c.self.inside.tables.tables c.args.home) c.args.place (row_without_cell row c.args.kind)) × AreHomes c.move_without-cell.new.self.tables c.write_come.new.homes.items
after c row at =
    let t = c.self.inside.tables.tables in
    let same = ap (λ a. a.tables) c.self.view_is in
    let here : row_at t c.args.home ≡ Some row = ap (λ u. row_at u c.args.home) same ∙ at in
    let stands = row_standing t c.args.entity c.args.home (subst (λ a. StandsIn a.tables c.args.entity c.args.home) (sym c.self.view_is) c.requires.stands) in
    let entity = ap (λ (r : Row). r.entity) (same_Some row stands.0 (sym here ∙ stands.1.0)) ∙ stands.1.1 in
    moved_homes t c.self.inside.homes.items c.args.entity c.args.home (set_without c.args.home.mask c.args.kind) c.args.place row (row_without_cell row c.args.kind) c.move_without-cell.new.self.tables c.move_without-cell.result.1.came c.move_without-cell.result.1.displaced c.move_without-cell.result.1.last c.write_left.new.homes.items c.write_come.new.homes.items
    c.self.invariant here entity refl (mask_is c row at) (lost_apart c.args.home.mask c.args.kind (omega (arith, c.if-prove.false)) c.requires.low c.requires.has) (subst (λ u. c.args.place ≤ length (rows_at u (set_without c.args.home.mask c.args.kind))) (sym same) c.requires.place)
    (c.move_without-cell.ensures.tables row here) c.move_without-cell.ensures.moved.displaced c.move_without-cell.ensures.moved.last
    c.move_without-cell.ensures.moved.came c.write_left.ensures (c.write_come.ensures ∙ ap (λ m. homes_come c.write_left.new.homes.items c.args.entity (record { mask = m; place = c.args.place }) c.move_without-cell.result.1.displaced c.move_without-cell.result.1.last) c.set_without.ensures)

pub write_left-requires-clause-gone : goal.write_left-requires-clause-gone
write_left-requires-clause-gone c = entity_within c.self.inside.tables.tables c.self.inside.homes.items c.args.entity c.args.home c.self.invariant (subst (λ a. StandsIn a.tables c.args.entity c.args.home) (sym c.self.view_is) c.requires.stands)

pub write_left-requires-clause-came : goal.write_left-requires-clause-came
write_left-requires-clause-came c =
    let t = c.self.inside.tables.tables in
    let stands = row_standing t c.args.entity c.args.home (subst (λ a. StandsIn a.tables c.args.entity c.args.home) (sym c.self.view_is) c.requires.stands) in
    let moved = c.move_without-cell.ensures.tables stands.0 stands.1.0 in
    came_within t c.self.inside.homes.items c.args.entity c.args.home c.move_without-cell.new.self.tables c.move_without-cell.result.1.came c.self.invariant (subst (λ a. StandsIn a.tables c.args.entity c.args.home) (sym c.self.view_is) c.requires.stands)
    (ap (λ u. row_at u c.args.home) moved ∙ row_apart (without_row t c.args.home) (set_without c.args.home.mask c.args.kind) (put_back (rows_at t (set_without c.args.home.mask c.args.kind)) c.args.place (row_without_cell stands.0 c.args.kind)) c.args.home (lost_apart c.args.home.mask c.args.kind (omega (arith, c.if-prove.false)) c.requires.low c.requires.has))
    c.move_without-cell.ensures.moved.came

pub write_come-requires-clause-entity : goal.write_come-requires-clause-entity
write_come-requires-clause-entity c =
    let within = entity_within c.self.inside.tables.tables c.self.inside.homes.items c.args.entity c.args.home c.self.invariant (subst (λ a. StandsIn a.tables c.args.entity c.args.home) (sym c.self.view_is) c.requires.stands) in
    let long = ap length c.write_left.ensures ∙ length_left c.self.inside.homes.items c.args.entity c.args.home c.move_without-cell.result.1.came in
    omega (arith, within, long)

pub write_come-requires-clause-displaced : goal.write_come-requires-clause-displaced
write_come-requires-clause-displaced c =
    subst (λ n. IfSome c.move_without-cell.result.1.displaced (λ e. e.index < n)) (sym (ap length c.write_left.ensures ∙ length_left c.self.inside.homes.items c.args.entity c.args.home c.move_without-cell.result.1.came))
    (some_within c.self.inside.tables.tables c.self.inside.homes.items (record { mask = set_without c.args.home.mask c.args.kind; place = c.args.place }) c.move_without-cell.result.1.displaced c.self.invariant c.move_without-cell.ensures.moved.displaced)

pub invariant_of-self : goal.invariant_of-self
invariant_of-self c =
    let stands = row_standing c.args.self.now.tables c.args.entity c.args.home c.requires.stands in
    (after c stands.0 stands.1.0).1

pub returns-clause-tables : goal.returns-clause-tables
returns-clause-tables c = λ row at. (after c row at).0 ∙ ap (λ a. with_row_back (without_row a.tables c.args.home) c.args.place (row_without_cell row c.args.kind)) c.self.view_is
