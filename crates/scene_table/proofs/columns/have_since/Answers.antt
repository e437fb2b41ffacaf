use Rattle.std.proofs.Common.{◌≤◌, ◌∙◌, length, ap, subst, sym, arith}
use Rattle.std.specs.Prelude.{slice_range}
use Rattle.std.specs.List.{list_any}
use Rattle.std.proofs.lemmas.List.{take_all}
use Rattle.std.proofs.lemmas.List.Folds.{list_any_at}
use Rattle.scene_table.specs.Columns.{ColumnState}
use Rattle.scene_table.specs.Since.{is_since}
use Rattle.scene_table.proofs.ColumnLists.{none_more}
use Rattle.scene_table.proofs.columns.have_since.Goals as goal

pub has_since-requires : goal.has_since-requires
has_since-requires c =
    (c.requires.0, subst (λ (x : ColumnState). c.args.to ≤ length x.cells) (sym c.column-item.is) (c.requires.1 c.loop-column.column-index c.column-item.result c.loop-column-test.true))

pub loop-column-preserved : goal.loop-column-preserved
loop-column-preserved c =
    none_more (λ (x : ColumnState). list_any (is_since c.args.since) (slice_range x.cells c.args.from c.args.to)) c.args.columns.now c.loop-column.column-index c.column-item.result c.loop-column-test.true c.column-item.is
    c.loop-column.invariant (sym c.has_since.ensures ∙ c.if-has_since.false)

pub returns-then-has_since : goal.returns-then-has_since
returns-then-has_since c =
    let test = λ (x : ColumnState). list_any (is_since c.args.since) (slice_range x.cells c.args.from c.args.to) in
    sym (list_any_at test c.args.columns.now c.loop-column.column-index c.column-item.result c.loop-column-test.true (ap test (sym c.column-item.is) ∙ sym c.has_since.ensures ∙ c.if-has_since.true))

pub returns : goal.returns
returns c =
    sym (ap (list_any (λ (x : ColumnState). list_any (is_since c.args.since) (slice_range x.cells c.args.from c.args.to))) (sym (take_all c.loop-column.column-index c.args.columns.now (omega (arith, c.loop-column-test.false))))
    ∙ c.loop-column.invariant)
