use Rattle.std.proofs.Common.{◌-◌, ◌≤◌, length}
use Rattle.scene_file.proofs.RowsTaken.{HasCells}
use Rattle.scene_file.proofs.usual_rows.take_cells.Given as goal

abbrev pub invariant-cells : goal.invariant-cells
invariant-cells l = HasCells l.kinds l.shapes l.initial.reader l.row.items l.reader × (length l.row.items ≤ length l.kinds)

abbrev pub decreases-cells : goal.decreases-cells
decreases-cells l = length l.kinds - length l.row.items
