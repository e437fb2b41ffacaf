use Rattle.std.proofs.Common.{arith}
use Rattle.scene_kinds.specs.declared.cells.Row.{Row}
use Rattle.scene_deltas.proofs.TimelyCells.{there}
use Rattle.scene_journal.specs.Newest.{AreListed}
use Rattle.scene_journal.proofs.Listed.{all_up_to, one_more, row_wider, wider_wider}
use Rattle.scene_journal.proofs.newest.NewestCells.add_table.Goals as goal

pub loop-at-preserved : goal.loop-at-preserved
loop-at-preserved c =
    let n = c.loop-at.self in
    let m = c.add_row.new.self in
    let rows = c.args.table.now.rows in
    let row = there rows c.loop-at.at (omega (arith, c.loop-at-test.true, c.len-at-end.ensures.count)) in
    let wide = c.in_ok-add_row.ensures.wide in (
      one_more (λ (r : Row). AreListed n r.entity r.cells) (λ (r : Row). AreListed m r.entity r.cells) rows c.loop-at.at row.0 (row_wider n m wide) row.1
          (c.in_ok-add_row.ensures.listed row.0 row.1) c.loop-at.invariant.0,
      wider_wider c.args.self.now n m c.loop-at.invariant.1 wide,
    )

pub returns-clause-listed : goal.returns-clause-listed
returns-clause-listed c =
    let end = c.loop-at-test.false in
    let count = c.len-at-end.ensures.count in
    all_up_to (λ (r : Row). AreListed c.loop-at.self r.entity r.cells) c.args.table.now.rows c.loop-at.at (omega (arith, end, count)) c.loop-at.invariant.0
