use Rattle.std.proofs.Common.{drop, ap, subst, sym, ◌∙◌, ◌+◌}
use Rattle.scene_deltas.specs.declared.delta.Delta.TheVariants.{CellSet}
use Rattle.scene_deltas.specs.Deltas.{fwd_all, AllFitOn}
use Rattle.scene_deltas.specs.Segments.{turn_deltas}
use Rattle.scene_deltas.proofs.Asked.{cell_is_good}
use Rattle.scene_deltas.proofs.TurnSteps.{cell_delta, first_fits, first_made, there_on}
use Rattle.scene_deltas.proofs.turn.make_cells_again.Goals as goal

pub set_cell-before-requires-clause-there : goal.set_cell-before-requires-clause-there
set_cell-before-requires-clause-there c =
    let w = c.loop-number.world.world in
    let cell = c.cell-cell.result in
    let d = CellSet cell.entity cell.kind cell.before cell.after in
    let there = cell_delta c.args.written.now c.loop-number.number cell.entity cell.kind cell.before cell.after c.cell-cell.ensures in
    there_on w cell.entity cell.kind cell.before cell.after (first_fits (turn_deltas c.args.written.now) c.loop-number.number d w there c.loop-number.invariant.fit).0

pub set_cell-before-requires-clause-good : goal.set_cell-before-requires-clause-good
set_cell-before-requires-clause-good c =
    let w = c.loop-number.world.world in
    let cell = c.cell-cell.result in
    let d = CellSet cell.entity cell.kind cell.before cell.after in
    let there = cell_delta c.args.written.now c.loop-number.number cell.entity cell.kind cell.before cell.after c.cell-cell.ensures in
    cell_is_good w cell.entity cell.kind cell.before cell.after (first_fits (turn_deltas c.args.written.now) c.loop-number.number d w there c.loop-number.invariant.fit).0

pub loop-number-preserved : goal.loop-number-preserved
loop-number-preserved c =
    let w = c.loop-number.world.world in
    let n = c.loop-number.number in
    let ds = turn_deltas c.args.written.now in
    let cell = c.cell-cell.result in
    let d = CellSet cell.entity cell.kind cell.before cell.after in
    let there = cell_delta c.args.written.now n cell.entity cell.kind cell.before cell.after c.cell-cell.ensures in record {
      fit = subst (AllFitOn (drop (n + 1) ds)) (sym c.set_cell-before.ensures.world) (first_fits ds n d w there c.loop-number.invariant.fit).1;
      rest = ap (fwd_all (drop (n + 1) ds)) c.set_cell-before.ensures.world ∙ sym (first_made ds n d w there) ∙ c.loop-number.invariant.rest;
      room = c.set_cell-before.ensures.room ∙ c.loop-number.invariant.room;
    }
