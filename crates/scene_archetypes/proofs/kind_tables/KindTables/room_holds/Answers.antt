use Rattle.scene_archetypes.proofs.Rooms.{now_held}
use Rattle.scene_archetypes.proofs.kind_tables.KindTables.room_holds.Goals as goal

pub returns : goal.returns
returns c = now_held c.self.inside.tables.items c.args.self.now c.self.view_is c.self.invariant.room
