use Rattle.std.proofs.Common.{◌∙◌, ◌≤◌, length, sym, arith}
use Rattle.scene_deltas.specs.Segments.{seen}
use Rattle.std.proofs.Math.ListN.{drop_of_length-le}
use Rattle.scene_c.proofs.StepLaws.{next_at, none_left}
use Rattle.scene_c.proofs.steps.behind.Goals as goal

pub gone-preserved : goal.gone-preserved
gone-preserved c = sym (next_at c.gone.counter c.args.deltas c.next.new.self (seen c.in-Some._gone) (sym c.gone.invariant ∙ c.in-Some.ensures)).1

pub returns-in_default : goal.returns-in_default
returns-in_default c =
    let most = none_left c.gone.counter c.args.deltas (sym c.gone.invariant ∙ c.in_default.ensures.0) in
    let all : length c.args.deltas ≤ c.args.count = omega (arith, most, c.gone-test.true, c.gone.auto.counter-end) in
    c.in_default.ensures.1 ∙ sym (drop_of_length-le c.args.deltas all)
