use Rattle.std.proofs.Common.{◌≡◌, drop}
use Rattle.scene_c.proofs.steps.behind.Given as goal

abbrev pub invariant-gone : goal.invariant-gone
invariant-gone l = l.left ≡ drop l.counter l.fn.deltas
