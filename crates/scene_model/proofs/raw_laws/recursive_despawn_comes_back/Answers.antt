use Rattle.scene_model.proofs.ListBack.{cut_lists_come_back, recursive_cuts}
use Rattle.scene_model.proofs.raw_laws.recursive_despawn_comes_back.Goals as goal

pub returns : goal.returns
returns c = record { cuts = recursive_cuts; back = cut_lists_come_back }
