use Rattle.std.proofs.Common.{◌+◌, ap, sym, ◌∙◌, Ok}
use Rattle.std.proofs.lemmas.List.{take_all}
use Rattle.scene_machine.specs.Frame.{queues_from}
use Rattle.scene_world.specs.Stage.{act}
use Rattle.scene_queue.specs.Requests.{requests}
use Rattle.scene_queue.specs.Queue.{QueueState}
use Rattle.scene_queue.specs.Frames.{frame_of, on_world}
use Rattle.scene_queue.proofs.Frames.{whole_one, refused_one, passed_some, passed_whole}
use Rattle.scene_queue.proofs.Worlds.{queues_world}
use Rattle.scene_world.proofs.Room.{wider_wider}
use Rattle.scene_queue.proofs.queue.apply_all.Goals as goal

pub returns-in-Err-clause-refused : goal.returns-in-Err-clause-refused
returns-in-Err-clause-refused g c = λ named.
    refused_one (act g.S.Stage.note) (λ (q : QueueState). requests q.commands) c.args.queues.now c.loop-queue.queue-index c.loop-queue.at c.queue-item.result _ _ _ _ _
    c.loop-queue-test.true c.queue-item.is c.loop-queue.invariant.0 c.loop-queue.invariant.1.0 (c.in-Err.ensures.refused named)

pub returns-in-Err-clause-passed : goal.returns-in-Err-clause-passed
returns-in-Err-clause-passed g c =
    passed_some (act g.S.Stage.note) (λ (q : QueueState). requests q.commands) c.args.queues.now c.loop-queue.queue-index c.queue-item.result _ _ _ _
    c.loop-queue-test.true c.queue-item.is c.loop-queue.invariant.1.0 c.in-Err.ensures.passed

pub returns-in-Err-clause-world_refused : goal.returns-in-Err-clause-world_refused
returns-in-Err-clause-world_refused g c = λ named.
    sym (queues_world g.S.Stage.note 0 (frame_of c.args.queues.now) (g.S.Stage.seen c.args.stage.now))
    ∙ ap on_world (refused_one (act g.S.Stage.note) (λ (q : QueueState). requests q.commands) c.args.queues.now c.loop-queue.queue-index c.loop-queue.at c.queue-item.result _ _ _ _ _
    c.loop-queue-test.true c.queue-item.is c.loop-queue.invariant.0 c.loop-queue.invariant.1.0 (c.in-Err.ensures.refused named))

pub returns-clause-world : goal.returns-clause-world
returns-clause-world g c =
    let queues = c.args.queues.now in
    let start = g.S.Stage.seen c.args.stage.now in
    sym (queues_world g.S.Stage.note 0 (frame_of queues) start)
    ∙ ap on_world (ap (λ qs. queues_from (act g.S.Stage.note) 0 (frame_of qs) start) (sym (take_all c.loop-queue.queue-index queues c.loop-queue-test.false)) ∙ c.loop-queue.invariant.1.0)

pub returns-in-Err-and_made-clause-passed : goal.returns-in-Err-and_made-clause-passed
returns-in-Err-and_made-clause-passed g c =
    passed_whole (act g.S.Stage.note) (λ (q : QueueState). requests q.commands) c.args.queues.now (c.loop-queue.queue-index + 1) _ _ _
    (whole_one (act g.S.Stage.note) (λ (q : QueueState). requests q.commands) c.args.queues.now c.loop-queue.queue-index c.queue-item.result _ _ _ _ _
    c.loop-queue-test.true c.queue-item.is c.loop-queue.invariant.1.0 c.in-Ok.ensures.whole)

pub loop-queue-preserved : goal.loop-queue-preserved
loop-queue-preserved g c = (
  ap (λ k. k + 1) c.loop-queue.invariant.0,
  (
    whole_one (act g.S.Stage.note) (λ (q : QueueState). requests q.commands) c.args.queues.now c.loop-queue.queue-index c.queue-item.result _ _ _ _ _
        c.loop-queue-test.true c.queue-item.is c.loop-queue.invariant.1.0 c.in-Ok.ensures.whole
        ∙ ap (λ es. Ok (es, g.S.Stage.seen c.apply_at.new.stage)) (sym c.in-Ok-and_made.ensures),
    (
      c.apply_at.ensures.opening ∙ c.loop-queue.invariant.1.1.0,
      wider_wider (g.S.Stage.room c.args.stage.now) (g.S.Stage.room c.loop-queue.stage) (g.S.Stage.room c.apply_at.new.stage) c.loop-queue.invariant.1.1.1 c.apply_at.ensures.wide,
    ),
  ),
)

pub returns-in-Err-clause-wide : goal.returns-in-Err-clause-wide
returns-in-Err-clause-wide g c =
    wider_wider (g.S.Stage.room c.args.stage.now) (g.S.Stage.room c.loop-queue.stage) (g.S.Stage.room c.apply_at.new.stage) c.loop-queue.invariant.1.1.1 c.in-Err.ensures.wide

pub returns-in-Err-and_made-clause-wide : goal.returns-in-Err-and_made-clause-wide
returns-in-Err-and_made-clause-wide g c =
    wider_wider (g.S.Stage.room c.args.stage.now) (g.S.Stage.room c.loop-queue.stage) (g.S.Stage.room c.apply_at.new.stage) c.loop-queue.invariant.1.1.1 c.apply_at.ensures.wide
