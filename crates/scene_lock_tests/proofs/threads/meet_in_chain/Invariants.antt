use Rattle.std.proofs.Common.{All}
use Rattle.std.specs.Prelude.{vec_len}
use Rattle.scene_lock.specs.Pass.{IsPassOf}
use Rattle.scene_lock_tests.proofs.threads.meet_in_chain.Given as goal

abbrev pub invariant-loop-pass : goal.invariant-loop-pass
invariant-loop-pass l = IsPassOf l.lock l.last × All (IsPassOf l.lock) l.passes.items

abbrev pub decreases-loop-pass : goal.decreases-loop-pass
decreases-loop-pass l = vec_len l.passes
