use Rattle.std.specs.Prelude.{vec_len}
use Rattle.scene_lock.proofs.lock.WordLock.+look_with.Given as goal

abbrev pub decreases-look_with : goal.decreases-look_with
decreases-look_with g l = vec_len l.passes
