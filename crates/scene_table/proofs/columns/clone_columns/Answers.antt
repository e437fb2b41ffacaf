use Rattle.std.proofs.Common.{◌+◌, ◌<◌, ◌≤◌, ℕ, List, length, get_or, take, sym, subst}
use Rattle.std.specs.List.{AllZip}
use Rattle.std.proofs.lemmas.List.Elements.{All-push}
use Rattle.scene_table.specs.Columns.{ColumnState, IsSameColumn}
use Rattle.scene_table.proofs.ColumnLists.{copied_more}
use Rattle.scene_table.proofs.columns.clone_columns.Goals as goal

pub loop-column-preserved : goal.loop-column-preserved
loop-column-preserved c = record {
  same = subst (λ copies. AllZip IsSameColumn (take (c.loop-column.column-index + 1) c.args.columns.now) copies) (sym c.in_ok-push.ensures.items)
      (copied_more c.args.columns.now c.loop-column.copies.items c.loop-column.column-index c.column-item.result c.in_ok-try_clone.field-0 c.loop-column-test.true c.column-item.is c.loop-column.invariant.same
      (record { kind = c.in_ok-try_clone.ensures.kind; cells = c.in_ok-try_clone.ensures.cells }));
  fits = subst (λ (copies : List ColumnState). (k : ℕ) (d : ColumnState) → k < length copies → length (get_or copies k d).cells ≤ (get_or copies k d).capacity) (sym c.in_ok-push.ensures.items)
      (All-push (λ (copy : ColumnState). length copy.cells ≤ copy.capacity) c.loop-column.copies.items c.in_ok-try_clone.field-0 c.loop-column.invariant.fits c.in_ok-try_clone.ensures.fits);
}
