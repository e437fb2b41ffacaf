use Rattle.std.proofs.Common.{◌≡◌, ◌≢◌, ◌∙◌, ◌+◌, ◌++◌, [], ◌∷◌, length, length-append, arith, ap, sym, subst, get_or, get_or-set_other}
use Rattle.std.specs.Prelude.{slice_set}
use Rattle.std.proofs.lemmas.List.{length-set}
use Rattle.scene_table.specs.Columns.{HasRoomAt, put_each, back_in_column}
use Rattle.scene_table.proofs.ColumnLists.{put_last}
use Rattle.scene_table.proofs.columns.put_cells.Goals as goal

pub loop-cell-preserved : goal.loop-cell-preserved
loop-cell-preserved c =
    let cells = c.pop.new.self in
    let columns = c.loop-cell.columns in
    let d = c.index-columns-len.result in
    let popped : c.loop-cell.cells ≡ cells ++ (c.in-Some.field-0-0, c.in-Some.cell) ∷ [] = c.in-Some.ensures.items in
    let count : length c.loop-cell.cells ≡ length cells + 1 = ap length popped ∙ length-append cells _ in
    let at : c.len.result ≡ length cells = omega (arith, c.len.ensures) in
    let written : slice_set columns c.len.result c.put_back.new.self ≡ slice_set columns (length cells) (back_in_column c.args.at (get_or columns (length cells) d) c.in-Some.cell) =
    ap (slice_set columns c.len.result) c.put_back.ensures ∙ ap (λ n. slice_set columns n (back_in_column c.args.at (get_or columns n d) c.in-Some.cell)) at in
    record {
      put = ap (put_each c.args.at cells) written ∙ sym (put_last c.args.at cells (c.in-Some.field-0-0, c.in-Some.cell) columns d (omega (arith, c.loop-cell.invariant.count)))
          ∙ ap (λ t. put_each c.args.at t columns) (sym popped) ∙ c.loop-cell.invariant.put;
      count = omega (arith, c.loop-cell.invariant.count, length-set columns c.len.result c.put_back.new.self);
      room = λ k e l.
          let ne : k ≢ c.len.result = omega arith in
          subst (HasRoomAt c.args.at) (sym (get_or-set_other columns c.len.result k c.put_back.new.self e ne)) (c.loop-cell.invariant.room k e (omega arith));
    }
