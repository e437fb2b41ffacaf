use Rattle.std.proofs.Common.{sym, ◌∙◌, arith}
use Rattle.scene_schedule.specs.Schedule.{is_good_rule}
use Rattle.scene_schedule.proofs.Walks.{bad_found, bad_passed, place_below}
use Rattle.scene_schedule.proofs.rule.bad_in_phase.Goals as goal

pub returns-then-not-may_stand : goal.returns-then-not-may_stand
returns-then-not-may_stand c =
    sym (bad_found c.args.schema.now c.args.phase c.places.at c.args.rules.now c.index-rules-at.result (omega (arith, c.places-test.true)) c.index-rules-at.is
    (sym c.may_stand.ensures ∙ c.if-not-may_stand.true))
    ∙ c.places.invariant.rest

pub places-preserved : goal.places-preserved
places-preserved c =
    let good = sym c.may_stand.ensures ∙ c.if-not-may_stand.false in
    record {
      few = place_below c.places.at (is_good_rule c.args.schema.now c.index-rules-at.result) good;
      rest = sym (bad_passed c.args.schema.now c.args.phase c.places.at c.args.rules.now c.index-rules-at.result (omega (arith, c.places-test.true)) c.index-rules-at.is good)
          ∙ c.places.invariant.rest;
    }
