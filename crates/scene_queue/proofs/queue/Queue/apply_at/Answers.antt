use Rattle.std.proofs.Common.{ap, ◌∙◌, subst}
use Rattle.std.specs.Prelude.{OnErr}
use Rattle.scene_world.specs.Stage.{act}
use Rattle.scene_queue.specs.Requests.{requests}
use Rattle.scene_queue.specs.Queue.{IsPassed}
use Rattle.scene_queue.proofs.queue.Queue.apply_at.Goals as goal

pub returns-clause-passed : goal.returns-clause-passed
returns-clause-passed g c =
    subst (λ cs. OnErr c.apply_commands.result (IsPassed (act g.S.Stage.note) (requests cs) (g.S.Stage.seen c.args.stage.now) (g.S.Stage.seen c.apply_commands.new.stage)))
    (c.as_slice.ensures.value ∙ ap (λ q. q.commands) c.self.view_is) c.apply_commands.ensures.passed
