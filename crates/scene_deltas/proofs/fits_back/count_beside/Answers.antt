use Rattle.scene_model.proofs.CanParts.{cells_are_good}
use Rattle.scene_deltas.proofs.ShiftedKinds.{kinds_low}
use Rattle.scene_deltas.proofs.fits_back.count_beside.Goals as goal

pub mask-requires-clause-below : goal.mask-requires-clause-below
mask-requires-clause-below c = kinds_low c.args.world.now.world c.args.cells.now c.tick-tick.ensures.valid ((cells_are_good c.args.world.now.world c.args.cells.now).0 c.requires)
