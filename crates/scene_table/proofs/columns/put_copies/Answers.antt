use Rattle.std.proofs.Common.{◌≡◌, ◌≢◌, ◌∙◌, ◌+◌, ◌++◌, [], ◌∷◌, length, length-append, arith, ap, sym, subst, get_or, get_or-set_other}
use Rattle.std.specs.Prelude.{slice_set}
use Rattle.std.proofs.lemmas.List.{length-set}
use Rattle.scene_table.specs.Columns.{HasRoomAt, put_each, back_in_column}
use Rattle.scene_table.specs.Plain.{has_text}
use Rattle.scene_table.proofs.ColumnLists.{put_last}
use Rattle.scene_table.proofs.PlainCells.{plain_before}
use Rattle.scene_table.proofs.columns.put_copies.Goals as goal

pub plain_cell-requires : goal.plain_cell-requires
plain_cell-requires c =
    (plain_before c.in-Some.before.now c.in-Some.last.now (ap has_text (sym c.in-Some.ensures.cases.0) ∙ c.back.invariant.plain)).1

pub back-preserved : goal.back-preserved
back-preserved c =
    let cells = c.in-Some.before.now in
    let last = c.in-Some.last.now in
    let columns = c.back.columns in
    let d = c.index-columns-before.result in
    let split : c.back.left.now ≡ cells ++ last ∷ [] = c.in-Some.ensures.cases.0 in
    let count : length c.back.left.now ≡ length cells + 1 = ap length split ∙ length-append cells _ in
    let written : slice_set columns (length cells) c.put_back.new.self ≡ slice_set columns (length cells) (back_in_column c.args.at (get_or columns (length cells) d) last.1) =
    ap (slice_set columns (length cells)) (c.put_back.ensures ∙ ap (back_in_column c.args.at (get_or columns (length cells) d)) c.plain_cell.ensures) in
    record {
      plain = (plain_before cells last (ap has_text (sym split) ∙ c.back.invariant.plain)).0;
      put = ap (put_each c.args.at cells) written ∙ sym (put_last c.args.at cells last columns d (omega (arith, c.back.invariant.count)))
          ∙ ap (λ t. put_each c.args.at t columns) (sym split) ∙ c.back.invariant.put;
      count = omega (arith, c.back.invariant.count, length-set columns (length cells) c.put_back.new.self);
      room = λ k e l.
          let ne : k ≢ (length cells) = omega arith in
          subst (HasRoomAt c.args.at) (sym (get_or-set_other columns (length cells) k c.put_back.new.self e ne)) (c.back.invariant.room k e (omega arith));
    }
