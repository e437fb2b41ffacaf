use Rattle.std.proofs.Common.{ℕ, string_bytes}
use Rattle.scene_kinds.specs.Cells.{shown}
use Rattle.scene_kinds.specs.declared.cell.Cell.{Cell}
use Rattle.scene_json_forms.specs.Text.{cell_text}
use Rattle.scene_json_forms.proofs.ListsWritten.{written}
use Rattle.scene_file.proofs.write_rows.write_cells.Goals as goal

pub cells-preserved : goal.cells-preserved
cells-preserved c = λ row there. written c.cells.later (λ (e : ℕ × Cell). cell_text e.1) row.cells c.cells.number
    (c.nth_cell.result.0, shown c.nth_cell.result.1)
    (string_bytes c.cells.out) (string_bytes c.write_comma.new.out) (string_bytes c.write_cell.new.out) _
    (c.nth_cell.ensures row there) (c.cells.invariant row there) c.in_ok-write_comma.ensures c.in_ok-write_cell.ensures
