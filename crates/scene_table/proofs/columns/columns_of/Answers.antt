use Rattle.std.proofs.Common.{◌+◌, ◌∙◌, ap, arith, subst, sym}
use Rattle.scene_table.proofs.KindLists.{AreColumnsUpTo, column_with, column_without, columns_all}
use Rattle.scene_table.proofs.columns.columns_of.Goals as goal
use Rattle.scene_table.proofs.columns.columns_of.Goals.{then-has_kind+in_ok-push, else-has_kind}

pub loop-kind-preserved : goal.loop-kind-preserved
loop-kind-preserved c = elim c.if-has_kind.branch [
  | then-has_kind+in_ok-push w ↦ subst (AreColumnsUpTo c.args.mask (c.loop-kind.kind + 1)) (sym (ap (λ t. t.items) w.columns-is ∙ w.in_ok-push.ensures.items))
      (column_with c.args.mask c.loop-kind.kind c.loop-kind.columns.items w.new.result c.loop-kind.invariant (sym c.has_kind.ensures ∙ w.if-has_kind.true) w.new.ensures.kind w.new.ensures.cells)
  | else-has_kind w ↦ subst (AreColumnsUpTo c.args.mask (c.loop-kind.kind + 1)) (sym (ap (λ t. t.items) w.columns-is))
      (column_without c.args.mask c.loop-kind.kind c.loop-kind.columns.items c.loop-kind.invariant (sym c.has_kind.ensures ∙ w.if-has_kind.false))
]

pub returns-clause-kinds : goal.returns-clause-kinds
returns-clause-kinds c = columns_all c.args.mask c.loop-kind.kind c.loop-kind.columns.items c.loop-kind.invariant c.loop-kind-test.false (omega arith) c.ranges.mask.fits

pub returns-clause-empty : goal.returns-clause-empty
returns-clause-empty c = c.loop-kind.invariant.empty
