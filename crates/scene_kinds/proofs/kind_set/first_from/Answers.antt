use Rattle.std.proofs.Common.{sym, ◌∙◌}
use Rattle.scene_kinds.proofs.Subsets.{kind_in, kind_out, kinds_end}
use Rattle.scene_kinds.proofs.kind_set.first_from.Goals as goal

pub returns-then-has_kind-clause-some : goal.returns-then-has_kind-clause-some
returns-then-has_kind-clause-some c =
    c.kinds.invariant ∙ kind_in c.args.set c.kinds.kind c.kinds-test.true (sym c.has_kind.ensures ∙ c.if-has_kind.true)

pub kinds-preserved : goal.kinds-preserved
kinds-preserved c = c.kinds.invariant ∙ kind_out c.args.set c.kinds.kind c.kinds-test.true (sym c.has_kind.ensures ∙ c.if-has_kind.false)

pub returns-clause-none : goal.returns-clause-none
returns-clause-none c = c.kinds.invariant ∙ kinds_end c.args.set c.kinds.kind c.kinds-test.false
