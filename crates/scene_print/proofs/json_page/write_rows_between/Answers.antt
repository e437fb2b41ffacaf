use Rattle.std.proofs.Common.{◌++◌, arith, string_bytes, take}
use Rattle.scene_table.proofs.RowLists.{element_at}
use Rattle.scene_print.specs.JsonShown.{row_json}
use Rattle.scene_json_forms.proofs.ListsWritten.{as_text, written}
use Rattle.scene_print.proofs.JsonObjects.{row_is}
use Rattle.scene_print.proofs.Pages.{within_part}
use Rattle.scene_print.proofs.json_page.write_rows_between.Goals as goal

pub rows-preserved : goal.rows-preserved
rows-preserved c = λ more.
    let rows = c.args.table.now.rows in
    let r = element_at rows c.rows.at (omega (arith, c.rows-test.true, c.requires.1)) in
    written c.rows.later (row_json c.args.schema.now) (take c.args.to rows ++ more) c.rows.at r.0 (string_bytes c.rows.out) (string_bytes c.write_comma.new.out)
    (string_bytes c.write_row_behind.new.out) _
    (within_part rows more c.rows.at c.args.to r.0 c.rows-test.true r.1) (c.rows.invariant more) c.in_ok-write_comma.ensures
    (as_text (string_bytes c.write_comma.new.out) _ _ _ (row_is c.args.schema.now r.0) (c.in_ok-write_row_behind.ensures r.0 r.1))
