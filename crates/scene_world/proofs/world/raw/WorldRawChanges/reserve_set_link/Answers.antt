use Rattle.std.proofs.Common.{subst}
use Rattle.std.specs.Prelude.{IfSome}
use Rattle.std.proofs.lemmas.Result.{on_ok_weaker}
use Rattle.scene_links.specs.Forest.{link_in}
use Rattle.scene_links.specs.Room.{HasRoom as HasRoomForChild}
use Rattle.scene_model.specs.World.{World}
use Rattle.scene_model.proofs.CanParts.{CanHaveLink, set_link as link_decides}
use Rattle.scene_model.proofs.LinkKeeps.{live_alone}
use Rattle.scene_model.proofs.Options.{in_some}
use Rattle.scene_world.proofs.Room.{holds_wider}
use Rattle.scene_world.proofs.MadeRoom.{link_held, link_ready}
use Rattle.scene_world.proofs.world.raw.WorldRawChanges.reserve_set_link.Goals as goal

pub returns-clause-room : goal.returns-clause-room
returns-clause-room c =
    let w = c.args.self.now.world in
    let new = c.reserve_link.new.self in
    let held = holds_wider c.args.self.now.room new.room w c.reserve_link.ensures.wide c.laws_hold.ensures.held in
    on_ok_weaker c.reserve_link.result
    (λ room. record {
      slots = held.slots;
      rows = held.rows;
      links = link_held new.room.lists w.children c.args.entity c.args.link c.laws_hold.ensures.valid.links.forest held.links
          (subst (λ (v : World). IfSome c.args.link (λ l. HasRoomForChild new.room.lists v.children c.args.entity l.0)) c.reserve_link.ensures.world room);
      names = held.names;
    }) c.reserve_link.ensures.room

pub returns-clause-there : goal.returns-clause-there
returns-clause-there c = λ held.
    let w = c.args.self.now.world in
    let valid = c.laws_hold.ensures.valid in
    let can = (link_decides w c.args.entity (link_in w.children c.args.entity) c.args.link).0 c.requires in
    c.reserve_link.ensures.there
    (link_ready c.args.self.now.room.lists w.children c.args.entity c.args.link valid.links.forest
    (λ l is. live_alone w c.args.entity l.0 valid can.live (in_some (CanHaveLink w c.args.entity) c.args.link l can.good is).room.live) held.links)
