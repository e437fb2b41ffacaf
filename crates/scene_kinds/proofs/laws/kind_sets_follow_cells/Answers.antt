use Rattle.scene_kinds.proofs.KindSets.{has_kind-mask_of, mask_of-with_cell, mask_of-without_cell}
use Rattle.scene_kinds.proofs.laws.kind_sets_follow_cells.Goals as goal

pub returns : goal.returns
returns c = record { has = has_kind-mask_of; with = mask_of-with_cell; without = mask_of-without_cell }
