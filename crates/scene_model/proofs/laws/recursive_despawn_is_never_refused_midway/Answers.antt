use Rattle.scene_model.proofs.DespawnEach.{recursive_is_whole}
use Rattle.scene_model.proofs.laws.recursive_despawn_is_never_refused_midway.Goals as goal

pub returns : goal.returns
returns c = recursive_is_whole
