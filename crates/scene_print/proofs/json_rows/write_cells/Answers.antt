use Rattle.std.proofs.Common.{string_bytes}
use Rattle.scene_kinds.specs.Cells.{shown}
use Rattle.scene_print.specs.JsonShown.{cell_member}
use Rattle.scene_print.proofs.JsonWritten.{member_written}
use Rattle.scene_print.proofs.json_rows.write_cells.Goals as goal

pub cells-preserved : goal.cells-preserved
cells-preserved c = λ row there. member_written c.cells.later (cell_member c.args.schema.now) row.cells c.cells.number
    (c.nth_cell-kind.result.0, shown c.nth_cell-kind.result.1)
    (string_bytes c.cells.out) (string_bytes c.write_comma.new.out) (string_bytes c.write_named_cell.new.out) _
    (c.nth_cell-kind.ensures row there) (c.cells.invariant row there) c.in_ok-write_comma.ensures c.in_ok-write_named_cell.ensures
