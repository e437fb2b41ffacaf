use Rattle.std.proofs.Common.{string_bytes}
use Rattle.scene_json_forms.proofs.ListsWritten.{as_text, so}
use Rattle.scene_print.proofs.JsonObjects.{row_answer_is}
use Rattle.scene_print.proofs.json_rows.write_json_row.Goals as goal

pub returns : goal.returns
returns c = so c.write_row_behind.result c.write_row_behind.ensures (λ h row there.
    as_text (string_bytes c.args.out.now) _ _ _ (row_answer_is c.args.schema.now row) (h row there))
