use Rattle.std.proofs.Common.{◌≡◌, Some, slice_get}
use Rattle.scene_kinds.specs.declared.cells.Row.{Row}
use Rattle.scene_journal.specs.Newest.{IsWider}
use Rattle.scene_journal.proofs.Listed.{IsCellListed, UpTo}
use Rattle.scene_journal.proofs.newest.NewestCells.add_row.Given as goal

abbrev pub invariant-loop-number : goal.invariant-loop-number
invariant-loop-number l =
    ((row : Row) → slice_get l.table.rows l.at ≡ Some row → UpTo (IsCellListed l.self row.entity) row.cells l.number) × IsWider l.initial.self l.self
