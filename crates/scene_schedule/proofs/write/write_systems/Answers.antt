use Rattle.std.proofs.Common.{[], ap, sym, ◌∙◌, map}
use Rattle.std.proofs.lemmas.List.{take_all}
use Rattle.scene_machine.specs.Queue.{play}
use Rattle.scene_machine.specs.Frame.{queues_from}
use Rattle.scene_queue.proofs.Frames.{whole_one}
use Rattle.scene_world.proofs.Room.{wider_wider}
use Rattle.scene_world.specs.Stage.{act}
use Rattle.scene_schedule.specs.Systems.{writes_of}
use Rattle.scene_schedule.proofs.write.write_systems.Goals as goal

pub loop-changes-preserved : goal.loop-changes-preserved
loop-changes-preserved g c = (
  whole_one (act g.S.Stage.note) writes_of c.args.rows.now c.loop-changes.changes-index c.changes-item.result _ _ _ [] []
      c.loop-changes-test.true c.changes-item.is c.loop-changes.invariant.0
      (ap (λ rows. play (act g.S.Stage.note) (writes_of rows) (g.S.Stage.seen c.loop-changes.stage)) (sym c.as_slice.ensures) ∙ c.in-Ok.ensures.written),
  (
    c.in-Ok.ensures.opening ∙ c.loop-changes.invariant.1.0,
    wider_wider (g.S.Stage.room c.args.stage.now) (g.S.Stage.room c.loop-changes.stage) (g.S.Stage.room c.write_rows.new.stage) c.loop-changes.invariant.1.1 c.in-Ok.ensures.wide,
  ),
)

pub returns-clause-written : goal.returns-clause-written
returns-clause-written g c = record {
  spawned = [];
  wrote =
      ap (λ rs. queues_from (act g.S.Stage.note) 0 (map writes_of rs) (g.S.Stage.seen c.args.stage.now)) (sym (take_all c.loop-changes.changes-index c.args.rows.now c.loop-changes-test.false))
      ∙ c.loop-changes.invariant.0;
}

pub returns-in-Err-clause-wide : goal.returns-in-Err-clause-wide
returns-in-Err-clause-wide g c =
    wider_wider (g.S.Stage.room c.args.stage.now) (g.S.Stage.room c.loop-changes.stage) (g.S.Stage.room c.write_rows.new.stage) c.loop-changes.invariant.1.1 c.in-Err.ensures.wide
