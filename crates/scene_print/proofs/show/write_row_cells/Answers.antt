use Rattle.std.proofs.Common.{◌+◌, drop, string_bytes}
use Rattle.scene_kinds.specs.Cells.{shown}
use Rattle.scene_pass.proofs.RowSteps.{drop_at}
use Rattle.scene_print.specs.Printed.{row_cell_text, cells_text}
use Rattle.scene_print.proofs.ShowLaws.{moved}
use Rattle.scene_print.proofs.show.write_row_cells.Goals as goal

pub cells-preserved : goal.cells-preserved
cells-preserved c = λ row there.
    let kinds = c.args.kinds.now in
    let cell = c.nth_cell-kind.result in
    let rest = cells_text kinds (drop (c.cells.number + 1) row.cells) in
    moved (string_bytes c.cells.out) (row_cell_text kinds cell.0 (shown cell.1)) (cells_text kinds (drop c.cells.number row.cells)) rest _ (string_bytes c.write_next_cell.new.out) (c.cells.invariant row there)
    (drop_at (cells_text kinds) row.cells c.cells.number (cell.0, shown cell.1) (c.nth_cell-kind.ensures row there)) c.in_ok-write_next_cell.ensures
