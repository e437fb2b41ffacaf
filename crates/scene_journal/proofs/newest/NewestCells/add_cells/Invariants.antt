use Rattle.scene_journal.specs.Newest.{IsWider}
use Rattle.scene_journal.proofs.Listed.{IsCellListed, UpTo}
use Rattle.scene_journal.proofs.newest.NewestCells.add_cells.Given as goal

abbrev pub invariant-loop-number : goal.invariant-loop-number
invariant-loop-number l = UpTo (IsCellListed l.self l.entity) l.cells l.number × IsWider l.initial.self l.self
