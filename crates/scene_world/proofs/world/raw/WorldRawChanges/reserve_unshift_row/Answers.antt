use Rattle.std.proofs.Common.{◌∙◌, suc, not, ap, sym, subst}
use Rattle.std.proofs.lemmas.Result.{on_ok_weaker}
use Rattle.scene_archetypes.specs.Archetypes.{HasRoomOf}
use Rattle.scene_model.specs.World.{World}
use Rattle.scene_model.proofs.CanParts.{unshift}
use Rattle.scene_world.proofs.Room.{holds_wider}
use Rattle.scene_world.proofs.MadeRoom.{rows_with}
use Rattle.scene_world.proofs.Shifts.{last_lives, moved_target, unshift_held, room_of_unshift}
use Rattle.scene_world.proofs.world.raw.WorldRawChanges.reserve_unshift_row.Goals as goal

pub home_of_live-home-requires : goal.home_of_live-home-requires
home_of_live-home-requires c = last_lives c.args.self.now.world c.args.entity ((unshift c.args.self.now.world c.args.entity c.args.place c.args.kind c.args.cell.now c.args.inward).0 c.requires.can).row

pub returns-clause-room : goal.returns-clause-room
returns-clause-room c =
    let w = c.args.self.now.world in
    let new = c.reserve_row.new.self in
    let valid = c.laws_hold.ensures.valid in
    let h = c.home_of_live-home.result in
    let home = c.home_of_live-home.ensures.row in
    let can = (unshift c.args.self.now.world c.args.entity c.args.place c.args.kind c.args.cell.now c.args.inward).0 c.requires.can in
    let mask = c.moved_mask.ensures ∙ moved_target w c.args.entity h c.args.kind c.args.cell.now (not c.args.inward) valid home c.requires.low can.moves in
    let held = holds_wider c.args.self.now.room new.room w c.reserve_row.ensures.wide c.laws_hold.ensures.held in
    on_ok_weaker c.reserve_row.result
    (λ room. unshift_held w c.args.entity h c.args.place c.args.kind c.args.cell.now c.args.inward valid home c.requires.low can new.room held
    (subst (λ m. HasRoomOf (rows_with w.tables new.room.rows new.room.homes) m (suc home.row.entity.index)) mask
    (subst (λ i. HasRoomOf (rows_with w.tables new.room.rows new.room.homes) c.moved_mask.result (suc i)) (ap (λ x. x.index) (sym home.same))
    (subst (λ (v : World). HasRoomOf (rows_with v.tables new.room.rows new.room.homes) c.moved_mask.result (suc c.args.entity.index)) c.reserve_row.ensures.world room)))) c.reserve_row.ensures.room

pub returns-clause-there : goal.returns-clause-there
returns-clause-there c = λ held.
    let old = c.args.self.now in
    let w = old.world in
    let valid = c.laws_hold.ensures.valid in
    let h = c.home_of_live-home.result in
    let home = c.home_of_live-home.ensures.row in
    let can = (unshift c.args.self.now.world c.args.entity c.args.place c.args.kind c.args.cell.now c.args.inward).0 c.requires.can in
    let mask = c.moved_mask.ensures ∙ moved_target w c.args.entity h c.args.kind c.args.cell.now (not c.args.inward) valid home c.requires.low can.moves in
    let room = room_of_unshift w c.args.entity h c.args.place c.args.kind c.args.cell.now c.args.inward valid home c.requires.low can old.room held in
    c.reserve_row.ensures.there
    (subst (λ i. HasRoomOf (rows_with w.tables old.room.rows old.room.homes) c.moved_mask.result (suc i)) (ap (λ x. x.index) home.same)
    (subst (λ m. HasRoomOf (rows_with w.tables old.room.rows old.room.homes) m (suc home.row.entity.index)) (sym mask) room))
