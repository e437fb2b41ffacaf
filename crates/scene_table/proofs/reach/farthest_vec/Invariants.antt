use Rattle.std.proofs.Common.{◌<◌, ℕ, ℤ, List, get_or}
use Rattle.scene_table.specs.Runs.{IsNear}
use Rattle.scene_table.proofs.reach.farthest_vec.Given as goal

abbrev pub invariant-loop-vector : goal.invariant-loop-vector
invariant-loop-vector l = (k : ℕ) (d : List ℤ) → k < l.vector-index → IsNear l.most (get_or l.vecs k d)
