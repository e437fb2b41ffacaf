use Rattle.scene_lock.specs.Pass.{IsPassOf}
use Rattle.scene_lock_tests.proofs.beside.is_shut_out.Given as goal

abbrev pub invariant-loop : goal.invariant-loop
invariant-loop l = IsPassOf l.lock l.pass
