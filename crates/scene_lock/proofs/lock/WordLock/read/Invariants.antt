use Rattle.std.proofs.Common.{◌≡◌, ◌++◌, ℕ}
use Rattle.scene_lock.specs.History.{Continues}
use Rattle.scene_lock.specs.Pass.{IsStill}
use Rattle.scene_lock.specs.Steps.{shares}
use Rattle.scene_lock.proofs.lock.WordLock.read.Given as goal

abbrev pub invariant-loop : goal.invariant-loop
invariant-loop g l = IsStill l.self l.initial.pass l.pass × Continues g.S.Kept.session l.initial.pass.session l.initial.pass.seen l.pass.seen
    × ((n : ℕ) × (l.pass.steps ≡ l.initial.pass.steps ++ shares l.initial.pass.session n))
