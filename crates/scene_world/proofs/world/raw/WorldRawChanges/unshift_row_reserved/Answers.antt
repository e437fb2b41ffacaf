use Rattle.std.proofs.Common.{◌≡◌, ◌∙◌, ap, sym, subst, arith}
use Rattle.scene_model.specs.World.{World, IsHomeOf}
use Rattle.scene_model.specs.Raw.{unshift_row}
use Rattle.scene_model.proofs.CanParts.{unshift}
use Rattle.scene_model.specs.Valid.{IsValid}
use Rattle.scene_model.proofs.MoveKeeps.{with_tables}
use Rattle.scene_world.specs.Room.{room_of}
use Rattle.scene_world.specs.Stored.{world_of}
use Rattle.scene_world.proofs.Room.{seen_world, inside, inside_tested, held_inside}
use Rattle.scene_world.proofs.Shifts.{last_lives, may_return, room_of_unshift, unshift_made, unshift_valid}
use Rattle.scene_world.proofs.world.raw.WorldRawChanges.unshift_row_reserved.Goals as goal

pub home_of_live-home-requires : goal.home_of_live-home-requires
home_of_live-home-requires c = last_lives c.args.self.now.world c.args.entity ((unshift c.args.self.now.world c.args.entity c.args.place c.args.kind c.args.cell c.args.inward).0 c.requires.can).row

pub move_row-requires-clause-moves : goal.move_row-requires-clause-moves
move_row-requires-clause-moves c = λ r at.
    let w = c.self.inside in
    let old : World = world_of w.schema w.slots w.tick w.tables.tables w.links.forest w.resources in
    let h = c.home_of_live-home.result in
    let home = inside c.self.view_is (λ v. IsHomeOf v c.args.entity h) c.home_of_live-home.ensures.row in
    let can = inside_tested c.self.view_is (λ v. unshift v c.args.entity c.args.place c.args.kind c.args.cell c.args.inward) c.requires.can in
    let held = held_inside c.self.view_is (λ v. unshift_row v c.args.entity c.args.place c.args.kind c.args.cell c.args.inward) c.requires.room in
    let room = room_of_unshift old c.args.entity h c.args.place c.args.kind c.args.cell c.args.inward c.self.invariant.valid home c.requires.low can (room_of w.slots w.tables w.links w.resources) held in
    may_return old c.args.entity h c.args.place c.args.kind c.args.cell c.args.inward c.self.invariant.valid home c.requires.low can w.tables.rooms w.tables.homes room r at

-- the inside after the move is the world before the shift
after : (c : goal.After-move_row) → let w = c.self.inside in
    unshift_row (world_of w.schema w.slots w.tick w.tables.tables w.links.forest w.resources) c.args.entity c.args.place c.args.kind c.args.cell c.args.inward
    ≡ world_of w.schema w.slots w.tick c.move_row.new.tables.tables w.links.forest w.resources
after c =
    let w = c.self.inside in
    let old : World = world_of w.schema w.slots w.tick w.tables.tables w.links.forest w.resources in
    let h = c.home_of_live-home.result in
    let home = inside c.self.view_is (λ v. IsHomeOf v c.args.entity h) c.home_of_live-home.ensures.row in
    let can = inside_tested c.self.view_is (λ v. unshift v c.args.entity c.args.place c.args.kind c.args.cell c.args.inward) c.requires.can in
    unshift_made old c.args.entity h c.args.place c.args.kind c.args.cell c.args.inward c.self.invariant.valid home c.requires.low can
    ∙ ap (with_tables old) (sym (c.move_row.ensures.tables home.row home.there))

pub invariant_of-self : goal.invariant_of-self
invariant_of-self c =
    let w = c.self.inside in
    let old : World = world_of w.schema w.slots w.tick w.tables.tables w.links.forest w.resources in
    let h = c.home_of_live-home.result in
    let home = inside c.self.view_is (λ v. IsHomeOf v c.args.entity h) c.home_of_live-home.ensures.row in
    let can = inside_tested c.self.view_is (λ v. unshift v c.args.entity c.args.place c.args.kind c.args.cell c.args.inward) c.requires.can in
    record {
      valid = subst IsValid (after c) (unshift_valid old c.args.entity h c.args.place c.args.kind c.args.cell c.args.inward c.self.invariant.valid home c.requires.low can);
      homes = omega (arith, c.move_row.ensures.homes, c.self.invariant.homes);
    }

pub returns-clause-world : goal.returns-clause-world
returns-clause-world c = sym (after c) ∙ ap (λ (v : World). unshift_row v c.args.entity c.args.place c.args.kind c.args.cell c.args.inward) (seen_world c.self.view_is)
