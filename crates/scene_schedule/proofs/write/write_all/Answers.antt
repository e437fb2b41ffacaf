use Rattle.std.proofs.Common.{subst}
use Rattle.std.specs.Prelude.{OnOk}
use Rattle.scene_world.proofs.Room.{wider_wider}
use Rattle.scene_schedule.specs.Output.{AreWritten}
use Rattle.scene_schedule.proofs.write.write_all.Goals as goal

pub returns-in-Ok-clause-written : goal.returns-in-Ok-clause-written
returns-in-Ok-clause-written g c =
    subst (λ s. OnOk c.write_systems.result (AreWritten g.S.Stage.note c.args.rows.now s (g.S.Stage.seen c.write_systems.new.stage))) c.make_room.ensures.seen
    c.write_systems.ensures.written

pub returns-in-Ok-clause-wide : goal.returns-in-Ok-clause-wide
returns-in-Ok-clause-wide g c =
    wider_wider (g.S.Stage.room c.args.stage.now) (g.S.Stage.room c.make_room.new.self) (g.S.Stage.room c.write_systems.new.stage) c.make_room.ensures.wide c.write_systems.ensures.wide
