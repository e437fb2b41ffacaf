use Rattle.std.proofs.Common.{sym}
use Rattle.scene_deltas.proofs.ShiftedKinds.{mask_is}
use Rattle.scene_deltas.proofs.fits_back.mask_in.Goals as goal

pub returns-in-Some : goal.returns-in-Some
returns-in-Some c = mask_is c.args.world.now.world c.args.entity c.in-Some.mask c.tick-tick.ensures.valid (sym c.in-Some.ensures)
