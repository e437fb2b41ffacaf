use Rattle.std.proofs.Common.{arith}
use Rattle.scene_table.specs.Columns.{zip_with, stamped, ticks}
use Rattle.scene_table.proofs.Zips.{zip-low}
use Rattle.scene_table.proofs.column.Column.try_clone.Goals as goal

pub returns-clause-fits : goal.returns-clause-fits
returns-clause-fits c =
    let cells = zip-low stamped c.in_ok-clone.field-0.items (zip_with ticks c.in_ok-try_clone.field-0.items c.in_ok-try_clone-2.field-0.items) in
    let both = zip-low ticks c.in_ok-try_clone.field-0.items c.in_ok-try_clone-2.field-0.items in
    omega (arith, cells.0, cells.1, both.0, both.1, c.in_ok-try_clone.ensures.fits, c.in_ok-try_clone-2.ensures.fits)
