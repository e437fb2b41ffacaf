use Rattle.std.proofs.Common.{length, take, ap, ◌∙◌, refl, rules}
use Rattle.std.proofs.lemmas.Iterator.Adapters.{YieldsList-from_vec}
use Rattle.std.proofs.lemmas.Iterator.Consumers.{YieldsList-turn}
use Rattle.std.proofs.lemmas.List.{length_push}
use Rattle.scene_world.specs.Stage.{act}
use Rattle.scene_machine.specs.Queue.{and_spawned, play}
use Rattle.scene_queue.specs.Requests.{request_of, requests}
use Rattle.scene_queue.proofs.Folds.{goes_on, passed_over, stops_there}
use Rattle.scene_world.proofs.Room.{wider_wider}
use Rattle.scene_queue.proofs.queue.apply_owned_commands.Goals as goal

pub returns-then-is_err-clause-passed : goal.returns-then-is_err-clause-passed
returns-then-is_err-clause-passed g c =
    let gives = c.into_iter-command-iterator.ensures.into_iter_gives in
    let turn = YieldsList-turn (YieldsList-from_vec {s = c.into_iter-command-iterator.result} c.args.commands.items gives.0 (gives.1 ∙ c.args.commands.ok.0)) c.loop-command.yielded c.loop-command.command-iterator c.loop-command.yielded_by c.next.result c.next.new.self c.in-Some.command c.in-Some.is c.next.ensures.steps in
    passed_over (act g.S.Stage.note) request_of c.args.commands.items (length c.loop-command.yielded) _ _ _ _ turn.0 refl c.loop-command.invariant.1.0

pub returns-in-Err-clause-passed : goal.returns-in-Err-clause-passed
returns-in-Err-clause-passed g c =
    let gives = c.into_iter-command-iterator.ensures.into_iter_gives in
    let turn = YieldsList-turn (YieldsList-from_vec {s = c.into_iter-command-iterator.result} c.args.commands.items gives.0 (gives.1 ∙ c.args.commands.ok.0)) c.loop-command.yielded c.loop-command.command-iterator c.loop-command.yielded_by c.next.result c.next.new.self c.in-Some.command c.in-Some.is c.next.ensures.steps in
    passed_over (act g.S.Stage.note) request_of c.args.commands.items (length c.loop-command.yielded) _ _ _ _ turn.0 (c.in-Err.ensures.answer.0) c.loop-command.invariant.1.0

pub returns-in-Err-clause-refused : goal.returns-in-Err-clause-refused
returns-in-Err-clause-refused g c =
    let gives = c.into_iter-command-iterator.ensures.into_iter_gives in
    let turn = YieldsList-turn (YieldsList-from_vec {s = c.into_iter-command-iterator.result} c.args.commands.items gives.0 (gives.1 ∙ c.args.commands.ok.0)) c.loop-command.yielded c.loop-command.command-iterator c.loop-command.yielded_by c.next.result c.next.new.self c.in-Some.command c.in-Some.is c.next.ensures.steps in
    stops_there (act g.S.Stage.note) request_of c.args.queue c.args.commands.items (length c.loop-command.yielded) _ c.in-Some.command _ _ _ _ _ _ _ turn.0
    c.loop-command.invariant.0 turn.1 (c.as_slice.ensures.value ∙ c.make_room_for.ensures.items) c.in-Err.ensures.answer.0 c.loop-command.invariant.1.0
    c.in-Err.ensures.answer.1 c.placed.ensures

pub loop-command-preserved : goal.loop-command-preserved
loop-command-preserved g c =
    let gives = c.into_iter-command-iterator.ensures.into_iter_gives in
    let turn = YieldsList-turn (YieldsList-from_vec {s = c.into_iter-command-iterator.result} c.args.commands.items gives.0 (gives.1 ∙ c.args.commands.ok.0)) c.loop-command.yielded c.loop-command.command-iterator c.loop-command.yielded_by c.next.result c.next.new.self c.in-Some.command c.in-Some.is c.next.ensures.steps in
    let more = length_push c.loop-command.yielded c.in-Some.command in (
      search (rules, c.loop-command.invariant.0, more),
      (
        ap (λ k. play (act g.S.Stage.note) (requests (take k c.args.commands.items)) (g.S.Stage.seen c.args.stage.now)) more
            ∙ goes_on (act g.S.Stage.note) request_of c.args.commands.items (length c.loop-command.yielded) c.in-Some.command _ _ _ _ _ _ _ turn.0
            turn.1 (c.as_slice.ensures.value ∙ c.make_room_for.ensures.items) c.loop-command.invariant.1.0 c.in-Ok.ensures.answer (c.note_spawned.ensures ∙ ap (λ es. and_spawned es c.in-Ok.made) c.make_room_for.ensures.items),
        (
          c.in-Ok.ensures.opening ∙ c.loop-command.invariant.1.1.0,
          wider_wider (g.S.Stage.room c.args.stage.now) (g.S.Stage.room c.loop-command.stage) (g.S.Stage.room c.do_owned.new.stage) c.loop-command.invariant.1.1.1 c.in-Ok.ensures.wide,
        ),
      ),
    )
