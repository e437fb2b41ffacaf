use Rattle.std.proofs.Common.{◌<◌, arith}
use Rattle.scene_deltas.proofs.StandingRows.{stands, place_here}
use Rattle.scene_deltas.proofs.fits.standing.Goals as goal

pub overflow_cast-result : goal.overflow_cast-result
overflow_cast-result c =
    let low : c.in_ok-table.place < 1048576 =
    place_here c.args.world.now.world c.args.entity c.in_ok-table.table.now.mask c.in_ok-table.place c.tick-tick.ensures.valid c.in_ok-table.ensures.home in
    omega (arith, low)

pub returns-clause-some : goal.returns-clause-some
returns-clause-some c = stands c.args.world.now.world c.args.entity c.in_ok-table.table.now c.in_ok-table.place c.in_ok-table.ensures.row c.in_ok-table.ensures.home
