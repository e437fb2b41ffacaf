use Rattle.std.proofs.Common.{ap, sym, ◌∙◌}
use Rattle.scene_world.specs.Stage.{act}
use Rattle.scene_machine.specs.Queue.{and_spawned}
use Rattle.scene_queue.specs.Requests.{request_of}
use Rattle.scene_queue.specs.Frames.{frame_of, lone_frame, on_world}
use Rattle.scene_queue.proofs.Lone.{lone_done, lone_refused}
use Rattle.scene_queue.proofs.Worlds.{queues_world}
use Rattle.scene_queue.proofs.queue.apply_lone.Goals as goal

pub returns-in-Ok-clause-whole : goal.returns-in-Ok-clause-whole
returns-in-Ok-clause-whole g c =
    lone_done (act g.S.Stage.note) (request_of c.args.command) (g.S.Stage.seen c.args.stage.now) _ _ c.in-Ok.made _
    (c.as_slice.ensures.value ∙ c.make_room_for.ensures.items ∙ c.new-spawned.ensures.items) c.in-Ok.ensures.answer
    (c.note_spawned.ensures ∙ ap (λ es. and_spawned es c.in-Ok.made) (sym c.as_slice.ensures.value))

pub returns-in-Ok-clause-world : goal.returns-in-Ok-clause-world
returns-in-Ok-clause-world g c =
    sym (queues_world g.S.Stage.note 0 (frame_of (lone_frame c.args.command)) (g.S.Stage.seen c.args.stage.now))
    ∙ ap on_world (lone_done (act g.S.Stage.note) (request_of c.args.command) (g.S.Stage.seen c.args.stage.now) _ _ c.in-Ok.made _
    (c.as_slice.ensures.value ∙ c.make_room_for.ensures.items ∙ c.new-spawned.ensures.items) c.in-Ok.ensures.answer
    (c.note_spawned.ensures ∙ ap (λ es. and_spawned es c.in-Ok.made) (sym c.as_slice.ensures.value)))

pub returns-in-Err-clause-refused : goal.returns-in-Err-clause-refused
returns-in-Err-clause-refused g c =
    lone_refused (act g.S.Stage.note) (request_of c.args.command) (g.S.Stage.seen c.args.stage.now) _ c.in-Err.refusal _
    (c.as_slice.ensures.value ∙ c.make_room_for.ensures.items ∙ c.new-spawned.ensures.items) c.in-Err.ensures.answer.1 c.placed.ensures

pub returns-in-Err-clause-world_refused : goal.returns-in-Err-clause-world_refused
returns-in-Err-clause-world_refused g c = λ other.
    sym (queues_world g.S.Stage.note 0 (frame_of (lone_frame c.args.command)) (g.S.Stage.seen c.args.stage.now))
    ∙ ap on_world (lone_refused (act g.S.Stage.note) (request_of c.args.command) (g.S.Stage.seen c.args.stage.now) _ c.in-Err.refusal _
    (c.as_slice.ensures.value ∙ c.make_room_for.ensures.items ∙ c.new-spawned.ensures.items) c.in-Err.ensures.answer.1 c.placed.ensures other)
