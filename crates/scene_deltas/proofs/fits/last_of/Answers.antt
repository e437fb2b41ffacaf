use Rattle.std.proofs.Common.{◌∙◌}
use Rattle.scene_deltas.proofs.Ends.{last_is}
use Rattle.scene_deltas.proofs.fits.last_of.Goals as goal

pub returns : goal.returns
returns c = c.copied.ensures ∙ c.last.ensures.value ∙ last_is c.args.indices.now
