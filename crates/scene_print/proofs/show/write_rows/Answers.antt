use Rattle.std.proofs.Common.{arith, append_assoc, ap, sym, ◌∙◌, ◌+◌, ◌++◌, ◌∷◌, [], drop, string_bytes}
use Rattle.scene_pass.proofs.RowSteps.{row_at, drop_at}
use Rattle.scene_print.specs.Printed.{row_text}
use Rattle.scene_print.specs.Shown.{rows_text}
use Rattle.scene_print.proofs.ShowLaws.{moved}
use Rattle.scene_print.proofs.show.write_rows.Goals as goal

pub rows-preserved : goal.rows-preserved
rows-preserved c =
    let kinds = c.args.kinds.now in
    let rows = c.args.table.now.rows in
    let r = row_at rows c.rows.at (omega (arith, c.rows-test.true, c.len-at-end.ensures.count)) in
    let text = row_text kinds r.0 in
    let rest = rows_text kinds (drop (c.rows.at + 1) rows) in
    moved (string_bytes c.rows.out) (text ++ 10 ∷ []) (rows_text kinds (drop c.rows.at rows)) rest _ (string_bytes c.push.new.self) c.rows.invariant
    (drop_at (rows_text kinds) rows c.rows.at r.0 r.1 ∙ sym (append_assoc text (10 ∷ []) rest))
    (c.in_ok-push.ensures.bytes ∙ ap (λ b. string_bytes c.write_next_row.new.out ++ b) (c.in_ok-push.ensures.ascii (omega arith)) ∙ ap (λ b. b ++ 10 ∷ []) (c.in_ok-write_next_row.ensures r.0 r.1) ∙ append_assoc (string_bytes c.rows.out) text (10 ∷ []))
