use Rattle.scene_lock.specs.Pass.{IsPassOf}
use Rattle.scene_lock_tests.proofs.beside.read_until.Given as goal

abbrev pub invariant-loop : goal.invariant-loop
invariant-loop g l = IsPassOf l.lock l.pass
