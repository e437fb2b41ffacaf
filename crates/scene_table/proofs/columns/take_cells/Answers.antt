use Rattle.std.proofs.Common.{◌≡◌, ◌<◌, ◌∙◌, ◌++◌, [], ◌∷◌, ℕ, suc, ◌+◌, take, length, arith, ap, sym, subst, get_or}
use Rattle.std.specs.Prelude.{slice_get}
use Rattle.scene_table.specs.Columns.{out_of_column, AreCellsAt}
use Rattle.scene_table.proofs.ColumnLists.{mapped_here, mapped_step, mapped_true, mapped_end, cells_more}
use Rattle.scene_table.proofs.columns.take_cells.Goals as goal

pub take-requires : goal.take-requires
take-requires c = mapped_true (out_of_column c.args.at) (λ column. c.args.at < length column.cells) c.loop-column.column-index c.args.columns.now c.loop-column.columns c.column-item.result c.requires.within c.loop-column.invariant.left c.loop-column-test.true

pub loop-column-preserved : goal.loop-column-preserved
loop-column-preserved c =
    let i = c.loop-column.column-index in
    let all = c.args.columns.now in
    let d = c.column-item.result in
    let here = mapped_here (out_of_column c.args.at) i all c.loop-column.columns d c.loop-column.invariant.left in
    let next : suc i ≡ i + 1 = omega arith in
    let more = cells_more all c.args.at i d c.loop-column.cells.items c.take.result c.loop-column-test.true c.loop-column.invariant.cells (ap (λ t. slice_get t.cells c.args.at) (sym here) ∙ c.take.ensures.cell) in
    let pushed : c.push_reserved.new.self.items ≡ c.loop-column.cells.items ++ ((get_or all i d).kind, c.take.result) ∷ [] = c.push_reserved.ensures.items ∙ ap (λ (k : ℕ). c.loop-column.cells.items ++ (k, c.take.result) ∷ []) (c.kind.ensures ∙ ap (λ t. t.kind) here) in
    record {
      left = mapped_step (out_of_column c.args.at) i all c.loop-column.columns c.take.new.self d c.loop-column.invariant.left c.loop-column-test.true c.take.ensures.left;
      cells = subst (λ (k : ℕ). AreCellsAt (take k all) c.args.at c.push_reserved.new.self.items) next (subst (AreCellsAt (take (suc i) all) c.args.at) (sym pushed) more);
      count = omega (arith, c.push_reserved.ensures.len);
      room = c.push_reserved.ensures.capacity ∙ c.loop-column.invariant.room;
    }

pub returns-clause-left : goal.returns-clause-left
returns-clause-left c = mapped_end (out_of_column c.args.at) c.loop-column.column-index c.args.columns.now c.loop-column.columns c.loop-column.invariant.left c.loop-column-test.false
