use Rattle.std.proofs.Common.{map, string_bytes}
use Rattle.scene_journal.specs.Newest.{IsNameListed, IsWider}
use Rattle.scene_journal.proofs.Listed.{UpTo}
use Rattle.scene_journal.proofs.newest.NewestCells.add_names.Given as goal

abbrev pub invariant-loop-number : goal.invariant-loop-number
invariant-loop-number l = UpTo (IsNameListed l.self l.resources.cells) (map string_bytes l.names) l.number × IsWider l.initial.self l.self
