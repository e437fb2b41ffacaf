use Rattle.scene_pass.proofs.ReadRows.{place_within}
use Rattle.scene_pass.proofs.written.place_of.Goals as goal

pub returns-clause-within : goal.returns-clause-within
returns-clause-within c = place_within c.args.values.now c.args.kind c.find_place.result c.find_place.ensures
