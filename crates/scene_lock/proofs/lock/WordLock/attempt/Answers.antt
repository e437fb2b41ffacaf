use Rattle.std.specs.Arc.{arc_value}
use Rattle.scene_lock.proofs.Passing.{wrote}
use Rattle.scene_lock.proofs.lock.WordLock.attempt.Goals as goal

pub returns-in-Ok-change_waiting-clause-done : goal.returns-in-Ok-change_waiting-clause-done
returns-in-Ok-change_waiting-clause-done g c = let k = g.S.Kept in let t = c.in-Ok.ensures.taken in let r = c.change_waiting in let done = c.in-Ok-change_waiting in
    wrote k.legal k.session c.args.self.now c.args.pass c.in-Ok.taken.1 c.put_after.result (k.entries (arc_value c.in-Ok.taken.0)) (k.entries (arc_value r.new.share)) _ t.0 t.1
    c.put_after.ensures.pass c.put_after.ensures.legal (λ n d e. g.C.Change.enters c.args.job n d e) c.session.result c.session.ensures done.reply done.ensures.done
