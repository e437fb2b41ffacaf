use Rattle.std.proofs.Common.{sym, ◌∙◌, arith}
use Rattle.scene_schedule.proofs.Walks.{clash_found, clash_passed}
use Rattle.scene_schedule.proofs.conflict.clash_among.Goals as goal

pub returns-then-clash : goal.returns-then-clash
returns-then-clash c =
    sym (clash_found c.args.phase c.args.first c.others.second c.args.rule.now c.args.others.now c.others.other-index c.other-item.result
    c.others-test.true c.other-item.is (sym c.clash.ensures ∙ c.if-clash.true))
    ∙ c.others.invariant.rest

pub others-preserved : goal.others-preserved
others-preserved c = record {
  place = omega arith;
  rest = sym (clash_passed c.args.phase c.args.first c.others.second c.args.rule.now c.args.others.now c.others.other-index c.other-item.result
      c.others-test.true c.other-item.is (sym c.clash.ensures ∙ c.if-clash.false))
      ∙ c.others.invariant.rest;
}
