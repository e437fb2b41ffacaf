use Rattle.std.proofs.Common.{length, refl}
use Rattle.std.proofs.lemmas.Option.{slice_get_read}
use Rattle.scene_journal.proofs.Listed.{IsCellListed, cell_wider, cells_listed, one_more, wider_wider}
use Rattle.scene_journal.proofs.newest.NewestCells.add_cells.Goals as goal

pub loop-number-preserved : goal.loop-number-preserved
loop-number-preserved c =
    let n = c.loop-number.self in
    let m = c.add.new.self in
    let e = c.args.entity in
    let cells = c.args.cells.now in
    let count = c.loop-number.number in
    let x = c.index-cells-number.result in
    let wide = c.in_ok-add.ensures.wide in (
      one_more (IsCellListed n e) (IsCellListed m e) cells count x (cell_wider n m e wide)
          (slice_get_read cells (length cells) count x refl c.loop-number-test.true c.index-cells-number.is) c.in_ok-add.ensures.listed c.loop-number.invariant.0,
      wider_wider c.args.self.now n m c.loop-number.invariant.1 wide,
    )

pub returns-clause-listed : goal.returns-clause-listed
returns-clause-listed c = cells_listed c.loop-number.self c.args.entity c.args.cells.now c.loop-number.number c.loop-number-test.false c.loop-number.invariant.0
