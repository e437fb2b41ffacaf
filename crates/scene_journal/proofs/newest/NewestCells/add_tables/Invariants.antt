use Rattle.std.proofs.Common.{map}
use Rattle.scene_journal.specs.Newest.{AreRowsListed, IsWider}
use Rattle.scene_journal.proofs.Listed.{UpTo}
use Rattle.scene_journal.proofs.newest.NewestCells.add_tables.Given as goal

abbrev pub invariant-loop-number : goal.invariant-loop-number
invariant-loop-number l = UpTo (AreRowsListed l.self) (map (λ t. t.now.rows) l.tables) l.number × IsWider l.initial.self l.self
