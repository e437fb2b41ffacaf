use Rattle.std.proofs.Common.{◌+◌, ◌≤◌, arith, length, take, ap, sym, ◌∙◌, Ok, rules}
use Rattle.std.proofs.lemmas.Iterator.Adapters.{YieldsList-from_vec}
use Rattle.std.proofs.lemmas.Iterator.Consumers.{YieldsList-turn, YieldsList-end}
use Rattle.std.proofs.lemmas.List.{length_push, take_all}
use Rattle.scene_machine.specs.Frame.{queues_from}
use Rattle.scene_world.specs.Stage.{act}
use Rattle.scene_queue.specs.Requests.{requests}
use Rattle.scene_queue.specs.Queue.{QueueState}
use Rattle.scene_queue.specs.Frames.{frame_of, on_world}
use Rattle.scene_queue.proofs.Frames.{whole_one, refused_one, passed_some, passed_whole}
use Rattle.scene_queue.proofs.Worlds.{queues_world}
use Rattle.scene_world.proofs.Room.{wider_wider}
use Rattle.scene_queue.proofs.queue.apply_owned.Goals as goal

pub returns-in-Err-clause-refused : goal.returns-in-Err-clause-refused
returns-in-Err-clause-refused g c = λ named.
    let gives = c.into_iter-queue-iterator.ensures.into_iter_gives in
    let turn = YieldsList-turn (YieldsList-from_vec {s = c.into_iter-queue-iterator.result} c.args.queues.items gives.0 (gives.1 ∙ c.args.queues.ok.0)) c.loop-queue.yielded c.loop-queue.queue-iterator c.loop-queue.yielded_by c.next.result c.next.new.self c.in-Some.queue c.in-Some.is c.next.ensures.steps in
    refused_one (act g.S.Stage.note) (λ (q : QueueState). requests q.commands) c.args.queues.items (length c.loop-queue.yielded) c.loop-queue.at c.in-Some.queue _ _ _ _ _
    turn.0 turn.1 c.loop-queue.invariant.0 c.loop-queue.invariant.1.0 (c.in-Err.ensures.refused named)

pub returns-in-Err-clause-passed : goal.returns-in-Err-clause-passed
returns-in-Err-clause-passed g c =
    let gives = c.into_iter-queue-iterator.ensures.into_iter_gives in
    let turn = YieldsList-turn (YieldsList-from_vec {s = c.into_iter-queue-iterator.result} c.args.queues.items gives.0 (gives.1 ∙ c.args.queues.ok.0)) c.loop-queue.yielded c.loop-queue.queue-iterator c.loop-queue.yielded_by c.next.result c.next.new.self c.in-Some.queue c.in-Some.is c.next.ensures.steps in
    passed_some (act g.S.Stage.note) (λ (q : QueueState). requests q.commands) c.args.queues.items (length c.loop-queue.yielded) c.in-Some.queue _ _ _ _
    turn.0 turn.1 c.loop-queue.invariant.1.0 c.in-Err.ensures.passed

pub returns-in-Err-clause-world_refused : goal.returns-in-Err-clause-world_refused
returns-in-Err-clause-world_refused g c = λ named.
    let gives = c.into_iter-queue-iterator.ensures.into_iter_gives in
    let turn = YieldsList-turn (YieldsList-from_vec {s = c.into_iter-queue-iterator.result} c.args.queues.items gives.0 (gives.1 ∙ c.args.queues.ok.0)) c.loop-queue.yielded c.loop-queue.queue-iterator c.loop-queue.yielded_by c.next.result c.next.new.self c.in-Some.queue c.in-Some.is c.next.ensures.steps in
    sym (queues_world g.S.Stage.note 0 (frame_of c.args.queues.items) (g.S.Stage.seen c.args.stage.now))
    ∙ ap on_world (refused_one (act g.S.Stage.note) (λ (q : QueueState). requests q.commands) c.args.queues.items (length c.loop-queue.yielded) c.loop-queue.at c.in-Some.queue _ _ _ _ _
    turn.0 turn.1 c.loop-queue.invariant.0 c.loop-queue.invariant.1.0 (c.in-Err.ensures.refused named))

pub returns-clause-world : goal.returns-clause-world
returns-clause-world g c =
    let queues = c.args.queues.items in
    let start = g.S.Stage.seen c.args.stage.now in
    let gives = c.into_iter-queue-iterator.ensures.into_iter_gives in
    let all = YieldsList-end (YieldsList-from_vec {s = c.into_iter-queue-iterator.result} queues gives.0 (gives.1 ∙ c.args.queues.ok.0)) c.loop-queue.yielded c.loop-queue.queue-iterator c.loop-queue.yielded_by c.next.result c.next.new.self c.in-None.is c.next.ensures.steps in
    let few : length queues ≤ length c.loop-queue.yielded = omega (arith, all.1) in
    sym (queues_world g.S.Stage.note 0 (frame_of queues) start)
    ∙ ap on_world (ap (λ qs. queues_from (act g.S.Stage.note) 0 (frame_of qs) start) (sym (take_all (length c.loop-queue.yielded) queues few)) ∙ c.loop-queue.invariant.1.0)

pub returns-in-Err-and_made-clause-passed : goal.returns-in-Err-and_made-clause-passed
returns-in-Err-and_made-clause-passed g c =
    let gives = c.into_iter-queue-iterator.ensures.into_iter_gives in
    let turn = YieldsList-turn (YieldsList-from_vec {s = c.into_iter-queue-iterator.result} c.args.queues.items gives.0 (gives.1 ∙ c.args.queues.ok.0)) c.loop-queue.yielded c.loop-queue.queue-iterator c.loop-queue.yielded_by c.next.result c.next.new.self c.in-Some.queue c.in-Some.is c.next.ensures.steps in
    passed_whole (act g.S.Stage.note) (λ (q : QueueState). requests q.commands) c.args.queues.items (length c.loop-queue.yielded + 1) _ _ _
    (whole_one (act g.S.Stage.note) (λ (q : QueueState). requests q.commands) c.args.queues.items (length c.loop-queue.yielded) c.in-Some.queue _ _ _ _ _
    turn.0 turn.1 c.loop-queue.invariant.1.0 c.in-Ok.ensures.whole)

pub loop-queue-preserved : goal.loop-queue-preserved
loop-queue-preserved g c =
    let gives = c.into_iter-queue-iterator.ensures.into_iter_gives in
    let turn = YieldsList-turn (YieldsList-from_vec {s = c.into_iter-queue-iterator.result} c.args.queues.items gives.0 (gives.1 ∙ c.args.queues.ok.0)) c.loop-queue.yielded c.loop-queue.queue-iterator c.loop-queue.yielded_by c.next.result c.next.new.self c.in-Some.queue c.in-Some.is c.next.ensures.steps in
    let more = length_push c.loop-queue.yielded c.in-Some.queue in (
      search (rules, c.loop-queue.invariant.0, more),
      (
        ap (λ k. queues_from (act g.S.Stage.note) 0 (frame_of (take k c.args.queues.items)) (g.S.Stage.seen c.args.stage.now)) more
            ∙ whole_one (act g.S.Stage.note) (λ (q : QueueState). requests q.commands) c.args.queues.items (length c.loop-queue.yielded) c.in-Some.queue _ _ _ _ _
            turn.0 turn.1 c.loop-queue.invariant.1.0 c.in-Ok.ensures.whole
            ∙ ap (λ es. Ok (es, g.S.Stage.seen c.apply_owned_at.new.stage)) (sym c.in-Ok-and_made.ensures),
        (
          c.apply_owned_at.ensures.opening ∙ c.loop-queue.invariant.1.1.0,
          wider_wider (g.S.Stage.room c.args.stage.now) (g.S.Stage.room c.loop-queue.stage) (g.S.Stage.room c.apply_owned_at.new.stage) c.loop-queue.invariant.1.1.1 c.apply_owned_at.ensures.wide,
        ),
      ),
    )
