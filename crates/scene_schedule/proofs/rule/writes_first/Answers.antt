use Rattle.std.proofs.Common.{◌+◌, sym, ap, ◌∙◌, arith}
use Rattle.std.specs.Prelude.{not}
use Rattle.std.specs.List.{list_any}
use Rattle.scene_schedule.specs.Schedule.{is_row}
use Rattle.scene_schedule.proofs.Walks.{queue_found, slice_from}
use Rattle.scene_schedule.proofs.rule.writes_first.Goals as goal

pub returns-then-not-is_row : goal.returns-then-not-is_row
returns-then-not-is_row c =
    ap not (c.any_row.ensures ∙ ap (list_any is_row) (slice_from c.args.steps.now (c.places.at + 1)))
    ∙ sym (queue_found c.args.steps.now c.places.at c.index-steps-at.result (omega (arith, c.places-test.true)) c.index-steps-at.is (sym c.is_row.ensures ∙ c.if-not-is_row.true))
    ∙ c.places.invariant
