use Rattle.std.proofs.Common.{◌≡◌, ◌∙◌, suc, true, false, sym, subst}
use Rattle.std.specs.Prelude.{IfSome}
use Rattle.std.proofs.lemmas.Result.{on_ok_weaker}
use Rattle.scene_kinds.specs.Cells.{mask_of}
use Rattle.scene_table.specs.Tables.{row_for}
use Rattle.scene_links.specs.Room.{HasRoom as HasRoomForChild}
use Rattle.scene_archetypes.specs.Archetypes.{HasRoomOf}
use Rattle.scene_model.specs.World.{World}
use Rattle.scene_model.proofs.CanParts.{uncut}
use Rattle.scene_model.proofs.GoodCells.{row_of_good}
use Rattle.scene_model.proofs.Relinks.{back_relinks}
use Rattle.scene_model.proofs.RowKinds.{row_kinds_low}
use Rattle.scene_world.specs.Room.{stored_rows}
use Rattle.scene_world.proofs.Room.{holds_wider, wider_wider}
use Rattle.scene_world.proofs.MadeRoom.{rows_with, rows_room_wider, link_room_wider, link_ready, uncut_held, room_of_returned}
use Rattle.scene_world.proofs.world.raw.WorldRawChanges.reserve_uncut_row.Goals as goal

pub mask-requires-clause-below : goal.mask-requires-clause-below
mask-requires-clause-below c =
    let w = c.args.self.now.world in
    row_kinds_low w.schema (mask_of c.args.cells.now) (row_for c.args.entity c.args.cells.now) (row_of_good w c.args.entity c.args.cells.now ((uncut c.args.self.now.world c.args.entity c.args.place c.args.cells.now c.args.link c.args.retired).0 c.requires).good) c.laws_hold.ensures.valid.schema.few

pub returns-in_err-reserve_link-clause-there : goal.returns-in_err-reserve_link-clause-there
returns-in_err-reserve_link-clause-there c = λ held.
    let w = c.args.self.now.world in
    let valid = c.laws_hold.ensures.valid in
    let ok = c.in_err-reserve_link.ensures.there
    (link_ready c.args.self.now.room.lists w.children c.args.entity c.args.link valid.links.forest
    (λ l is. (back_relinks w c.args.entity c.args.place c.args.cells.now c.args.link c.args.retired l valid ((uncut c.args.self.now.world c.args.entity c.args.place c.args.cells.now c.args.link c.args.retired).0 c.requires) is).link.alone) held.links) in
    absurd (let k : false ≡ true = ok in cc)

pub returns-clause-room : goal.returns-clause-room
returns-clause-room c =
    let old = c.args.self.now in
    let mid = c.reserve_link.new.self in
    let new = c.reserve_row.new.self in
    let same : new.world ≡ old.world = c.reserve_row.ensures.world ∙ c.reserve_link.ensures.world in
    let wide = wider_wider old.room mid.room new.room c.reserve_link.ensures.wide c.reserve_row.ensures.wide in
    let held = holds_wider old.room new.room old.world wide c.laws_hold.ensures.held in
    let fits = link_room_wider mid new c.args.entity c.args.link c.reserve_row.ensures.world c.reserve_row.ensures.wide c.in_ok-reserve_link.ensures.room in
    on_ok_weaker c.reserve_row.result
    (λ room. uncut_held new.room old.world c.args.entity c.args.place c.args.cells.now c.args.link c.args.retired c.laws_hold.ensures.valid.links.forest ((uncut c.args.self.now.world c.args.entity c.args.place c.args.cells.now c.args.link c.args.retired).0 c.requires).within held
    (subst (λ (w : World). HasRoomOf (rows_with w.tables new.room.rows new.room.homes) (mask_of c.args.cells.now) (suc c.args.entity.index)) same
    (subst (λ m. HasRoomOf (rows_with new.world.tables new.room.rows new.room.homes) m (suc c.args.entity.index)) c.mask.ensures room))
    (subst (λ (w : World). IfSome c.args.link (λ l. HasRoomForChild new.room.lists w.children c.args.entity l.0)) same fits)) c.reserve_row.ensures.room

pub returns-clause-there : goal.returns-clause-there
returns-clause-there c = λ held.
    let old = c.args.self.now in
    let mid = c.reserve_link.new.self in
    let room = room_of_returned old.room.rows old.room.homes old.world.tables c.args.place (row_for c.args.entity c.args.cells.now) ((uncut c.args.self.now.world c.args.entity c.args.place c.args.cells.now c.args.link c.args.retired).0 c.requires).within held.rows in
    c.reserve_row.ensures.there
    (rows_room_wider old mid c.mask.result (suc c.args.entity.index) c.reserve_link.ensures.world c.reserve_link.ensures.wide (subst (λ m. HasRoomOf (stored_rows old) m (suc c.args.entity.index)) (sym c.mask.ensures) room))

pub returns-clause-wide : goal.returns-clause-wide
returns-clause-wide c = wider_wider c.args.self.now.room c.reserve_link.new.self.room c.reserve_row.new.self.room c.reserve_link.ensures.wide c.reserve_row.ensures.wide
