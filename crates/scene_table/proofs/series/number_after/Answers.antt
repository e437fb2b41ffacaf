use Rattle.scene_table.proofs.Fits.{wrapped_sum}
use Rattle.scene_table.proofs.series.number_after.Goals as goal

pub returns : goal.returns
returns c = wrapped_sum c.args.base c.args.by c.args.turns c.ranges.base c.ranges.by c.ranges.turns c.requires
