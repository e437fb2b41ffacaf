use Rattle.std.proofs.Common.{sym, ◌∙◌}
use Rattle.scene_deltas.proofs.Ascending.{ascend_is}
use Rattle.scene_deltas.proofs.fits.is_ascending.Goals as goal

pub returns : goal.returns
returns c = c.kinds_ascend.ensures ∙ sym (ascend_is c.args.cells.now)
