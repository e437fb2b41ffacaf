use Rattle.std.proofs.Common.{◌∙◌}
use Rattle.scene_world.proofs.Room.{wider_wider}
use Rattle.scene_world.specs.Stage.{act}
use Rattle.scene_schedule.specs.Systems.{writes_of_row}
use Rattle.scene_schedule.proofs.Writes.{one_more}
use Rattle.scene_schedule.proofs.write.write_rows.Goals as goal

pub loop-row-preserved : goal.loop-row-preserved
loop-row-preserved g c = (
  one_more (act g.S.Stage.note) writes_of_row c.args.rows.now c.loop-row.row-index c.row-item.result _ _ _
      c.loop-row-test.true c.row-item.is c.loop-row.invariant.0 c.in-Ok.ensures.written,
  (
    c.in-Ok.ensures.opening ∙ c.loop-row.invariant.1.0,
    wider_wider (g.S.Stage.room c.args.stage.now) (g.S.Stage.room c.loop-row.stage) (g.S.Stage.room c.write_row.new.stage) c.loop-row.invariant.1.1 c.in-Ok.ensures.wide,
  ),
)

pub returns-in-Err-clause-wide : goal.returns-in-Err-clause-wide
returns-in-Err-clause-wide g c =
    wider_wider (g.S.Stage.room c.args.stage.now) (g.S.Stage.room c.loop-row.stage) (g.S.Stage.room c.write_row.new.stage) c.loop-row.invariant.1.1 c.in-Err.ensures.wide
