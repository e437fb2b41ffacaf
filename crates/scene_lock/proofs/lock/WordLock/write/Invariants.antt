use Rattle.std.proofs.Common.{◌≡◌}
use Rattle.scene_lock.specs.History.{Continues}
use Rattle.scene_lock.specs.Pass.{IsStill}
use Rattle.scene_lock.specs.Steps.{Waits}
use Rattle.scene_lock.proofs.lock.WordLock.write.Given as goal

abbrev pub invariant-loop : goal.invariant-loop
invariant-loop g l = IsStill l.self l.initial.pass l.pass × Continues g.S.Kept.session l.initial.pass.session l.initial.pass.seen l.pass.seen × (l.job ≡ l.initial.job)
    × Waits l.initial.pass.session l.initial.pass.steps l.pass.steps
