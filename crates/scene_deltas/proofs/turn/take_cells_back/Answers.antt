use Rattle.std.proofs.Common.{◌≡◌, ◌+◌, ◌-◌, arith, ◌∙◌}
use Rattle.scene_deltas.specs.declared.delta.Delta.TheVariants.{CellSet}
use Rattle.scene_deltas.specs.Segments.{turn_deltas}
use Rattle.scene_deltas.proofs.Asked.{cell_is_good}
use Rattle.scene_deltas.proofs.TurnSteps.{cell_delta, last_fits, one_back, there_back}
use Rattle.scene_deltas.proofs.turn.take_cells_back.Goals as goal

pub set_cell-after-requires-clause-there : goal.set_cell-after-requires-clause-there
set_cell-after-requires-clause-there c =
    let w = c.loop-left.world.world in
    let n = c.loop-left.left - 1 in
    let ds = turn_deltas c.args.written.now in
    let cell = c.cell-cell.result in
    let d = CellSet cell.entity cell.kind cell.before cell.after in
    let next : c.loop-left.left ≡ n + 1 = omega (arith, c.loop-left-test.true) in
    let there = cell_delta c.args.written.now n cell.entity cell.kind cell.before cell.after c.cell-cell.ensures in
    there_back w cell.entity cell.kind cell.before cell.after (last_fits ds n c.loop-left.left d w next there c.loop-left.invariant.fit).0

pub set_cell-after-requires-clause-good : goal.set_cell-after-requires-clause-good
set_cell-after-requires-clause-good c =
    let w = c.loop-left.world.world in
    let n = c.loop-left.left - 1 in
    let ds = turn_deltas c.args.written.now in
    let cell = c.cell-cell.result in
    let d = CellSet cell.entity cell.kind cell.before cell.after in
    let next : c.loop-left.left ≡ n + 1 = omega (arith, c.loop-left-test.true) in
    let there = cell_delta c.args.written.now n cell.entity cell.kind cell.before cell.after c.cell-cell.ensures in
    cell_is_good w cell.entity cell.kind cell.after cell.before (last_fits ds n c.loop-left.left d w next there c.loop-left.invariant.fit).0

pub loop-left-preserved-in-loop-left : goal.loop-left-preserved-in-loop-left
loop-left-preserved-in-loop-left c =
    let w = c.loop-left.world.world in
    let n = c.loop-left.left - 1 in
    let ds = turn_deltas c.args.written.now in
    let cell = c.cell-cell.result in
    let d = CellSet cell.entity cell.kind cell.before cell.after in
    let next : c.loop-left.left ≡ n + 1 = omega (arith, c.loop-left-test.true) in
    let there = cell_delta c.args.written.now n cell.entity cell.kind cell.before cell.after c.cell-cell.ensures in
    let kept = one_back ds n c.loop-left.left d w c.set_cell-after.new.self.world c.args.world.now.world next there
    (record { low = c.loop-left.invariant.low; fit = c.loop-left.invariant.fit; rest = c.loop-left.invariant.rest }) c.set_cell-after.ensures.world in record {
      low = kept.low;
      fit = kept.fit;
      rest = kept.rest;
      room = c.set_cell-after.ensures.room ∙ c.loop-left.invariant.room;
    }

pub loop-left-preserved : goal.loop-left-preserved
loop-left-preserved c =
    let w = c.loop-left.world.world in
    let n = c.loop-left.left - 1 in
    let ds = turn_deltas c.args.written.now in
    let cell = c.cell-cell.result in
    let d = CellSet cell.entity cell.kind cell.before cell.after in
    let next : c.loop-left.left ≡ n + 1 = omega (arith, c.loop-left-test.true) in
    let there = cell_delta c.args.written.now n cell.entity cell.kind cell.before cell.after c.cell-cell.ensures in
    let kept = one_back ds n c.loop-left.left d w c.set_cell-after.new.self.world c.args.world.now.world next there
    (record { low = c.loop-left.invariant.low; fit = c.loop-left.invariant.fit; rest = c.loop-left.invariant.rest }) c.set_cell-after.ensures.world in record {
      low = kept.low;
      fit = kept.fit;
      rest = kept.rest;
      room = c.set_cell-after.ensures.room ∙ c.loop-left.invariant.room;
    }
