use Rattle.std.proofs.Common.{◌≡◌, Some, length, take}
use Rattle.std.specs.Prelude.{slice_get}
use Rattle.scene_kinds.specs.declared.cells.Row.{Row}
use Rattle.scene_deltas.proofs.fits.has_cells.Given as goal

abbrev pub invariant-loop-i : goal.invariant-loop-i
invariant-loop-i l = (row : Row) → slice_get l.table.rows l.place ≡ Some row → (length l.items ≡ length row.cells) × (take l.i row.cells ≡ take l.i l.items)
