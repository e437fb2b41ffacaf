use Rattle.std.proofs.Common.{sym, ◌∙◌}
use Rattle.scene_model.specs.Valid.{is_timely}
use Rattle.scene_deltas.proofs.TimelyCells.{one_passes, one_fails}
use Rattle.scene_deltas.proofs.timely.row_is_timely.Goals as goal

pub returns-then-not-is_timely : goal.returns-then-not-is_timely
returns-then-not-is_timely c = λ row there.
    one_fails (λ x. is_timely c.args.tick x.1) row.cells c.loop-number.number _ _ (c.nth_cell.ensures row there) (c.loop-number.invariant row there) (sym c.is_timely.ensures ∙ c.if-not-is_timely.true)

pub loop-number-preserved : goal.loop-number-preserved
loop-number-preserved c = λ row there.
    one_passes (λ x. is_timely c.args.tick x.1) row.cells c.loop-number.number _ _ (c.nth_cell.ensures row there) (c.loop-number.invariant row there) (sym c.is_timely.ensures ∙ c.if-not-is_timely.false)
