use Rattle.scene_resources.proofs.ResourceLaws.{names_ascend, names_whole, names_found}
use Rattle.scene_resources.proofs.laws.names_are_whole.Goals as goal

pub returns : goal.returns
returns c = record { ascending = names_ascend; whole = names_whole; cells = names_found }
