use Rattle.std.proofs.Common.{◌≡◌, ◌∙◌, length, ap, sym, subst, arith}
use Rattle.scene_table.specs.Tables.{rows_at, without_row, with_row_back}
use Rattle.scene_model.specs.World.{World, IsHomeOf}
use Rattle.scene_model.specs.Raw.{cells_of, shift_row}
use Rattle.scene_model.proofs.CanParts.{move}
use Rattle.scene_model.specs.Valid.{IsValid}
use Rattle.scene_model.proofs.MoveKeeps.{with_tables}
use Rattle.scene_world.specs.Room.{room_of}
use Rattle.scene_world.specs.Stored.{world_of}
use Rattle.scene_world.proofs.Room.{seen_world, inside, inside_tested, held_inside}
use Rattle.scene_world.proofs.Shifts.{last_place, moved_row, moved_target, may_move, room_of_shift, shift_made, shift_valid}
use Rattle.scene_world.proofs.world.raw.WorldRawChanges.shift_row_reserved.Goals as goal

pub move_row-requires-clause-moves : goal.move_row-requires-clause-moves
move_row-requires-clause-moves c = λ r at.
    let w = c.self.inside in
    let old : World = world_of w.schema w.slots w.tick w.tables.tables w.links.forest w.resources in
    let h = c.home_of_live-home.result in
    let home = inside c.self.view_is (λ v. IsHomeOf v c.args.entity h) c.home_of_live-home.ensures.row in
    let can = inside_tested c.self.view_is (λ v. move v (cells_of v c.args.entity) c.args.kind c.args.cell c.args.inward) c.requires.moves in
    let held = held_inside c.self.view_is (λ v. shift_row v c.args.entity c.args.kind c.args.cell c.args.inward) c.requires.room in
    let room = room_of_shift old c.args.entity h c.args.kind c.args.cell c.args.inward c.self.invariant.valid home c.requires.low can (room_of w.slots w.tables w.links w.resources) held in
    let target = moved_target old c.args.entity h c.args.kind c.args.cell c.args.inward c.self.invariant.valid home c.requires.low can in
    let last : c.len-last.result ≡ last_place old c.args.entity h c.args.kind c.args.cell c.args.inward c.self.invariant.valid home c.requires.low can =
    c.len-last.ensures ∙ ap (λ m. length (rows_at w.tables.tables m)) (c.moved_mask.ensures ∙ target) in
    may_move old c.args.entity h c.args.kind c.args.cell c.args.inward c.self.invariant.valid home c.requires.low can w.tables.rooms w.tables.homes c.len-last.result (omega (arith, last)) room r at

-- the inside after the move is the world after the shift
after : (c : goal.After-move_row) → let w = c.self.inside in
    shift_row (world_of w.schema w.slots w.tick w.tables.tables w.links.forest w.resources) c.args.entity c.args.kind c.args.cell c.args.inward
    ≡ world_of w.schema w.slots w.tick c.move_row.new.tables.tables w.links.forest w.resources
after c =
    let w = c.self.inside in
    let old : World = world_of w.schema w.slots w.tick w.tables.tables w.links.forest w.resources in
    let h = c.home_of_live-home.result in
    let home = inside c.self.view_is (λ v. IsHomeOf v c.args.entity h) c.home_of_live-home.ensures.row in
    let can = inside_tested c.self.view_is (λ v. move v (cells_of v c.args.entity) c.args.kind c.args.cell c.args.inward) c.requires.moves in
    let row = moved_row old c.args.entity h c.args.kind c.args.cell c.args.inward c.self.invariant.valid home c.requires.low can in
    let target = moved_target old c.args.entity h c.args.kind c.args.cell c.args.inward c.self.invariant.valid home c.requires.low can in
    let last = c.len-last.ensures ∙ ap (λ m. length (rows_at w.tables.tables m)) (c.moved_mask.ensures ∙ target) in
    shift_made old c.args.entity h c.args.kind c.args.cell c.args.inward c.self.invariant.valid home c.requires.low can
    ∙ ap (with_tables old) (ap (λ n. with_row_back (without_row w.tables.tables h) n row) (sym last) ∙ sym (c.move_row.ensures.tables home.row home.there))

pub invariant_of-self : goal.invariant_of-self
invariant_of-self c =
    let w = c.self.inside in
    let old : World = world_of w.schema w.slots w.tick w.tables.tables w.links.forest w.resources in
    let h = c.home_of_live-home.result in
    let home = inside c.self.view_is (λ v. IsHomeOf v c.args.entity h) c.home_of_live-home.ensures.row in
    let can = inside_tested c.self.view_is (λ v. move v (cells_of v c.args.entity) c.args.kind c.args.cell c.args.inward) c.requires.moves in
    record {
      valid = subst IsValid (after c) (shift_valid old c.args.entity h c.args.kind c.args.cell c.args.inward c.self.invariant.valid home c.requires.low can);
      homes = omega (arith, c.move_row.ensures.homes, c.self.invariant.homes);
    }

pub returns-clause-world : goal.returns-clause-world
returns-clause-world c = sym (after c) ∙ ap (λ (v : World). shift_row v c.args.entity c.args.kind c.args.cell c.args.inward) (seen_world c.self.view_is)
