use Rattle.std.proofs.Common.{arith, ◌^◌, ℕ, None}
use Rattle.std.proofs.lemmas.List.Sums.{sum_by_more}
use Rattle.scene_file.proofs.TableKinds.{kind_small, next_bit}
use Rattle.scene_file.proofs.read_rows.set_of.Goals as goal

pub overflow_shl-set : goal.overflow_shl-set
overflow_shl-set c = omega (arith, kind_small 64 None c.args.kinds.now c.loop-kind.kind-index 0 c.loop-kind-test.true c.requires)

pub overflow_add-set : goal.overflow_add-set
overflow_add-set c = omega (arith, next_bit c.args.kinds.now c.loop-kind.kind-index 0 c.loop-kind-test.true c.requires, c.loop-kind.invariant)

pub loop-kind-preserved : goal.loop-kind-preserved
loop-kind-preserved c = omega (
  arith,
  next_bit c.args.kinds.now c.loop-kind.kind-index 0 c.loop-kind-test.true c.requires,
  sum_by_more
      (λ (k : ℕ). 2 ^ k) c.args.kinds.now c.loop-kind.kind-index 0 c.loop-kind-test.true,
  c.loop-kind.invariant,
)
