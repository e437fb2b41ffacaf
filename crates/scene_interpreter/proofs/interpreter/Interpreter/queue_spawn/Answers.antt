use Rattle.std.proofs.Common.{ap}
use Rattle.scene_interpreter.specs.Interpreter.{mode_by, reached}
use Rattle.scene_interpreter.specs.Play.{state_by}
use Rattle.scene_interpreter.proofs.WholeFrameLaws.{queued_in}
use Rattle.scene_interpreter.proofs.interpreter.Interpreter.queue_spawn.Goals as goal

pub returns-in-Playing-clause-some : goal.returns-in-Playing-clause-some
returns-in-Playing-clause-some g c =
    let seen = g.O.SessionOwner.state in
    queued_in (state_by seen c.in-Playing.state) (state_by seen c.spawn_in_frame.new.state) (reached seen g.O.ScriptOwner.most c.args.self.now) c.args.components
    c.spawn_in_frame.result (ap (mode_by seen g.O.ScriptOwner.most) c.in-Playing.is) c.spawn_in_frame.ensures.some
