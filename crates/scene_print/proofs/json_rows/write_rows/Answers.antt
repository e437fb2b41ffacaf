use Rattle.std.proofs.Common.{arith, string_bytes}
use Rattle.scene_table.proofs.RowLists.{element_at}
use Rattle.scene_print.specs.JsonShown.{row_json}
use Rattle.scene_json_forms.proofs.ListsWritten.{as_text, written}
use Rattle.scene_print.proofs.JsonObjects.{row_is}
use Rattle.scene_print.proofs.json_rows.write_rows.Goals as goal

pub rows-preserved : goal.rows-preserved
rows-preserved c =
    let rows = c.args.table.now.rows in
    let r = element_at rows c.rows.at (omega (arith, c.rows-test.true, c.len-at-end.ensures.count)) in
    written c.rows.later (row_json c.args.schema.now) rows c.rows.at r.0 (string_bytes c.rows.out) (string_bytes c.write_comma.new.out)
    (string_bytes c.write_row_behind.new.out) _
    r.1 c.rows.invariant c.in_ok-write_comma.ensures
    (as_text (string_bytes c.write_comma.new.out) _ _ _ (row_is c.args.schema.now r.0) (c.in_ok-write_row_behind.ensures r.0 r.1))
