use Rattle.std.proofs.Common.{◌≡◌, map, take}
use Rattle.shared_scene.specs.Seen.{seen_of}
use Rattle.shared_scene.proofs.seen.entries_seen.Given as goal

abbrev pub invariant-loop-entry : goal.invariant-loop-entry
invariant-loop-entry l = l.seen.items ≡ map seen_of (take l.entry-index l.history)
