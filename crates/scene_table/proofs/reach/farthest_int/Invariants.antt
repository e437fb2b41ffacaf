use Rattle.std.proofs.Common.{◌<◌, ◌≤◌, ℕ, ℤ, get_or}
use Rattle.std.specs.Prelude.{unsigned_abs}
use Rattle.scene_table.proofs.reach.farthest_int.Given as goal

abbrev pub invariant-loop-number : goal.invariant-loop-number
invariant-loop-number l = (k : ℕ) (d : ℤ) → k < l.number-index → unsigned_abs (get_or l.ints k d) ≤ l.most
