use Rattle.std.proofs.Common.{◌∙◌, ap, sym, arith}
use Rattle.std.specs.Prelude.{slice_range}
use Rattle.std.specs.List.{list_any}
use Rattle.std.proofs.lemmas.List.{take_all}
use Rattle.scene_table.specs.Columns.{ColumnState}
use Rattle.scene_table.specs.Since.{is_since}
use Rattle.scene_table.proofs.ColumnLists.{none_more}
use Rattle.scene_table.proofs.columns.may_have.Goals as goal

pub loop-column-preserved : goal.loop-column-preserved
loop-column-preserved c from to =
    none_more (λ (x : ColumnState). list_any (is_since c.args.since) (slice_range x.cells from to)) c.args.columns.now c.loop-column.column-index c.column-item.result c.loop-column-test.true c.column-item.is
    (c.loop-column.invariant from to) (c.may_have.ensures c.if-may_have.false from to)

pub returns : goal.returns
returns c low from to =
    ap (list_any (λ (x : ColumnState). list_any (is_since c.args.since) (slice_range x.cells from to))) (sym (take_all c.loop-column.column-index c.args.columns.now (omega (arith, c.loop-column-test.false))))
    ∙ c.loop-column.invariant from to
