use Rattle.std.proofs.Common.{refl, arith}
use Rattle.scene_schedule.proofs.Walks.{same_lists}
use Rattle.scene_schedule.proofs.schedule.same_schema.Goals as goal

pub returns : goal.returns
returns c = (
  λ t. same_lists c.args.a.now c.args.b.now (omega (arith, c.len.ensures.count, c.len-count.ensures.count, c.if-len-count.false)) (λ k below. c.kinds.invariant k (omega (arith, below, c.kinds-test.false, c.len-count.ensures.count))),
  λ e. refl,
)
