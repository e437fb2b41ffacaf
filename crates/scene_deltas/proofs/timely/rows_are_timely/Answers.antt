use Rattle.std.proofs.Common.{arith, sym, ◌∙◌}
use Rattle.scene_model.specs.Timely.{row_is_timely}
use Rattle.scene_deltas.proofs.TimelyCells.{there, one_passes, one_fails}
use Rattle.scene_deltas.proofs.timely.rows_are_timely.Goals as goal

pub returns-then-not-row_is_timely : goal.returns-then-not-row_is_timely
returns-then-not-row_is_timely c =
    let rows = c.args.table.now.rows in
    let row = there rows c.loop-at.at (omega (arith, c.loop-at-test.true, c.len-at-end.ensures.count)) in
    one_fails (row_is_timely c.args.tick) rows c.loop-at.at row.0 _ row.1 c.loop-at.invariant (sym (c.row_is_timely.ensures row.0 row.1) ∙ c.if-not-row_is_timely.true)

pub loop-at-preserved : goal.loop-at-preserved
loop-at-preserved c =
    let rows = c.args.table.now.rows in
    let row = there rows c.loop-at.at (omega (arith, c.loop-at-test.true, c.len-at-end.ensures.count)) in
    one_passes (row_is_timely c.args.tick) rows c.loop-at.at row.0 _ row.1 c.loop-at.invariant (sym (c.row_is_timely.ensures row.0 row.1) ∙ c.if-not-row_is_timely.false)
