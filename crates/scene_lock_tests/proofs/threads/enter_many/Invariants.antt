use Rattle.scene_lock.specs.Pass.{IsPassOf}
use Rattle.scene_lock_tests.proofs.threads.enter_many.Given as goal

abbrev pub invariant-loop-number : goal.invariant-loop-number
invariant-loop-number g l = IsPassOf l.lock l.pass
