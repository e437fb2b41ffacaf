use Rattle.scene_journal.specs.Newest.{AreListed, IsWider}
use Rattle.scene_journal.proofs.Listed.{UpTo}
use Rattle.scene_journal.proofs.newest.NewestCells.add_table.Given as goal

abbrev pub invariant-loop-at : goal.invariant-loop-at
invariant-loop-at l = UpTo (λ row. AreListed l.self row.entity row.cells) l.table.rows l.at × IsWider l.initial.self l.self
