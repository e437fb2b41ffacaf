use Rattle.scene_kinds.proofs.Subsets.{subset_law, disjoint_law}
use Rattle.scene_kinds.proofs.laws.kind_sets_compare_by_kinds.Goals as goal

pub returns : goal.returns
returns c = record { subset = subset_law; disjoint = disjoint_law }
