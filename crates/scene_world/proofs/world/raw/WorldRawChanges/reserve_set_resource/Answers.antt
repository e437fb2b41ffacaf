use Rattle.std.proofs.lemmas.Result.{on_ok_weaker}
use Rattle.scene_world.proofs.Room.{holds_wider}
use Rattle.scene_world.proofs.MadeRoom.{name_held, room_of_name}
use Rattle.scene_world.proofs.world.raw.WorldRawChanges.reserve_set_resource.Goals as goal

pub returns-clause-room : goal.returns-clause-room
returns-clause-room c =
    let w = c.args.self.now.world in
    let new = c.reserve_name.new.self in
    let held = holds_wider c.args.self.now.room new.room w c.reserve_name.ensures.wide c.laws_hold.ensures.held in
    on_ok_weaker c.reserve_name.result
    (λ kept. record {
      slots = held.slots;
      rows = held.rows;
      links = held.links;
      names = name_held new.room.names w.resources c.args.name.now c.args.cell.now held.names kept;
    }) c.reserve_name.ensures.room

pub returns-clause-there : goal.returns-clause-there
returns-clause-there c = λ held. c.reserve_name.ensures.there (room_of_name c.args.self.now.room.names c.args.self.now.world.resources c.args.name.now c.args.cell.now held.names)
