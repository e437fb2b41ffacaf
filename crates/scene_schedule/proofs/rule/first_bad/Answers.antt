use Rattle.std.proofs.Common.{◌≡◌, drop, [], sym, ap, ◌∙◌, arith}
use Rattle.scene_schedule.specs.Schedule.{bad_from}
use Rattle.std.proofs.lemmas.List.{drop_all}
use Rattle.scene_schedule.proofs.Walks.{phase_past, few_systems}
use Rattle.scene_schedule.proofs.rule.first_bad.Goals as goal

pub returns-then-at-ge-MOST-clause-fault : goal.returns-then-at-ge-MOST-clause-fault
returns-then-at-ge-MOST-clause-fault c =
    sym (phase_past c.args.schema.now c.places.at c.args.phases.now (omega (arith, c.places-test.true)) (omega (arith, c.if-at-ge-MOST.true)))
    ∙ c.places.invariant.rest

pub returns-clause-few : goal.returns-clause-few
returns-clause-few c =
    let end : drop c.places.at c.args.phases.now ≡ [] = drop_all c.places.at c.args.phases.now (omega (arith, c.places-test.false)) in
    λ none. few_systems c.args.schema.now 0 c.args.phases.now (sym c.places.invariant.rest ∙ ap (bad_from c.args.schema.now c.places.at) end)
