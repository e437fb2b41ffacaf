use Rattle.std.proofs.Common.{◌≡◌, length}
use Rattle.scene_journal.proofs.newest.empty.Given as goal

abbrev pub invariant-fill : goal.invariant-fill
invariant-fill l = length l.by_age.items ≡ l.counter
