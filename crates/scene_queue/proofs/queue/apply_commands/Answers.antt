use Rattle.std.proofs.Common.{◌+◌, ap, ◌∙◌, refl}
use Rattle.scene_world.specs.Stage.{act}
use Rattle.scene_machine.specs.Queue.{and_spawned}
use Rattle.scene_queue.specs.Requests.{request_of}
use Rattle.scene_queue.proofs.Folds.{goes_on, passed_over, stops_there}
use Rattle.scene_world.proofs.Room.{wider_wider}
use Rattle.scene_queue.proofs.queue.apply_commands.Goals as goal

pub returns-then-is_err-clause-passed : goal.returns-then-is_err-clause-passed
returns-then-is_err-clause-passed g c = passed_over (act g.S.Stage.note) request_of _ c.loop-command.command-index _ _ _ _ c.loop-command-test.true refl c.loop-command.invariant.1.0

pub returns-in-Err-clause-passed : goal.returns-in-Err-clause-passed
returns-in-Err-clause-passed g c = passed_over (act g.S.Stage.note) request_of _ c.loop-command.command-index _ _ _ _ c.loop-command-test.true (c.in-Err.ensures.answer.0) c.loop-command.invariant.1.0

pub returns-in-Err-clause-refused : goal.returns-in-Err-clause-refused
returns-in-Err-clause-refused g c =
    stops_there (act g.S.Stage.note) request_of c.args.queue _ c.loop-command.command-index _ c.command-item.result _ _ _ _ _ _ _ c.loop-command-test.true
    c.loop-command.invariant.0 c.command-item.is (c.as_slice.ensures.value ∙ c.make_room_for.ensures.items) c.in-Err.ensures.answer.0 c.loop-command.invariant.1.0
    c.in-Err.ensures.answer.1 c.placed.ensures

pub loop-command-preserved : goal.loop-command-preserved
loop-command-preserved g c = (
  ap (λ k. k + 1) c.loop-command.invariant.0,
  (
    goes_on (act g.S.Stage.note) request_of _ c.loop-command.command-index c.command-item.result _ _ _ _ _ _ _ c.loop-command-test.true
        c.command-item.is (c.as_slice.ensures.value ∙ c.make_room_for.ensures.items) c.loop-command.invariant.1.0 c.in-Ok.ensures.answer (c.note_spawned.ensures ∙ ap (λ es. and_spawned es c.in-Ok.made) c.make_room_for.ensures.items),
    (
      c.in-Ok.ensures.opening ∙ c.loop-command.invariant.1.1.0,
      wider_wider (g.S.Stage.room c.args.stage.now) (g.S.Stage.room c.loop-command.stage) (g.S.Stage.room c.do_command.new.stage) c.loop-command.invariant.1.1.1 c.in-Ok.ensures.wide,
    ),
  ),
)

pub returns-in-Err-clause-wide : goal.returns-in-Err-clause-wide
returns-in-Err-clause-wide g c =
    wider_wider (g.S.Stage.room c.args.stage.now) (g.S.Stage.room c.loop-command.stage) (g.S.Stage.room c.do_command.new.stage) c.loop-command.invariant.1.1.1 c.in-Err.ensures.wide
