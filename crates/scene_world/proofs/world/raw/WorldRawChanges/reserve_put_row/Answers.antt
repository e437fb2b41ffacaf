use Rattle.std.proofs.Common.{◌≡◌, ◌≤◌, ◌+◌, ◌∙◌, suc, true, length, sym, subst, arith, ap}
use Rattle.std.proofs.lemmas.Result.{on_ok_weaker}
use Rattle.scene_kinds.specs.Cells.{mask_of}
use Rattle.scene_table.specs.Tables.{row_for}
use Rattle.scene_archetypes.specs.Archetypes.{HasRoomOf}
use Rattle.scene_model.specs.World.{World}
use Rattle.scene_model.proofs.CanParts.{put}
use Rattle.scene_model.proofs.GoodCells.{row_of_good}
use Rattle.scene_model.proofs.RowKinds.{row_kinds_low}
use Rattle.scene_world.proofs.Room.{holds_wider, wider_wider}
use Rattle.scene_world.proofs.MadeRoom.{rows_with, rows_room_wider, put_held, room_of_put}
use Rattle.scene_world.specs.Room.{stored_rows}
use Rattle.scene_world.proofs.world.raw.WorldRawChanges.reserve_put_row.Goals as goal

pub mask-requires-clause-below : goal.mask-requires-clause-below
mask-requires-clause-below c =
    let w = c.args.self.now.world in
    row_kinds_low w.schema (mask_of c.args.cells.now) (row_for c.args.entity c.args.cells.now) (row_of_good w c.args.entity c.args.cells.now ((put c.args.self.now.world c.args.entity c.args.cells.now c.args.fresh).0 c.requires).good) c.laws_hold.ensures.valid.schema.few

pub returns-clause-room : goal.returns-clause-room
returns-clause-room c =
    let old = c.args.self.now in
    let mid = c.reserve_slot.new.self in
    let new = c.reserve_row.new.self in
    let same : new.world ≡ old.world = c.reserve_row.ensures.world ∙ c.reserve_slot.ensures.world in
    let wide = wider_wider old.room mid.room new.room c.reserve_slot.ensures.wide c.reserve_row.ensures.wide in
    let held = holds_wider old.room new.room old.world wide c.laws_hold.ensures.held in
    let slot : c.args.fresh ≡ true → length old.world.slots.generations + 1 ≤ new.room.slots =
    λ fresh. omega (arith, c.in_ok-reserve_slot.ensures.room fresh, ap (λ (w : World). length w.slots.generations) c.reserve_slot.ensures.world, c.reserve_row.ensures.wide.slots) in
    on_ok_weaker c.reserve_row.result
    (λ room. put_held new.room old.world c.args.entity c.args.cells.now c.args.fresh ((put c.args.self.now.world c.args.entity c.args.cells.now c.args.fresh).0 c.requires) held slot
    (subst (λ (w : World). HasRoomOf (rows_with w.tables new.room.rows new.room.homes) (mask_of c.args.cells.now) (suc c.args.entity.index)) same
    (subst (λ m. HasRoomOf (rows_with new.world.tables new.room.rows new.room.homes) m (suc c.args.entity.index)) c.mask.ensures room))) c.reserve_row.ensures.room

pub returns-clause-there : goal.returns-clause-there
returns-clause-there c = λ held.
    let old = c.args.self.now in
    let mid = c.reserve_slot.new.self in
    let room = (room_of_put old.room old.world c.args.entity c.args.cells.now c.args.fresh ((put c.args.self.now.world c.args.entity c.args.cells.now c.args.fresh).0 c.requires) held).1 in
    c.reserve_row.ensures.there
    (rows_room_wider old mid c.mask.result (suc c.args.entity.index) c.reserve_slot.ensures.world c.reserve_slot.ensures.wide (subst (λ m. HasRoomOf (stored_rows old) m (suc c.args.entity.index)) (sym c.mask.ensures) room))

pub returns-clause-wide : goal.returns-clause-wide
returns-clause-wide c = wider_wider c.args.self.now.room c.reserve_slot.new.self.room c.reserve_row.new.self.room c.reserve_slot.ensures.wide c.reserve_row.ensures.wide
