use Rattle.std.proofs.Common.{◌≡◌, ℕ, ◌<◌, get_or, length, false}
use Rattle.scene_journal.specs.declared.runs.Last.{Last}
use Rattle.scene_journal.proofs.runs.Runs.end.Given as goal

-- those up to a number are no longer live
abbrev pub invariant-loop-at : goal.invariant-loop-at
invariant-loop-at l = record {
  count : length l.self.list.items ≡ length l.initial.self.list.items;
  done : (k : ℕ) (d : Last) → k < l.at → (get_or l.self.list.items k d).live ≡ false;
}
