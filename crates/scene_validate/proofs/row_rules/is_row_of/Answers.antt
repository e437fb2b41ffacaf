use Rattle.std.proofs.Common.{rules}
use Rattle.scene_validate.proofs.Ascents.{fits_low}
use Rattle.scene_validate.proofs.row_rules.is_row_of.Goals as goal

pub mask-requires-clause-below : goal.mask-requires-clause-below
mask-requires-clause-below c = fits_low c.args.schema.now c.args.row.now (search rules) (search rules) (search rules)
