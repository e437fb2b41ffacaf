use Rattle.scene_file.proofs.SavedBack.{world_loaded, same_saves}
use Rattle.scene_file.proofs.saved_laws.saved_worlds_are_loaded.Goals as goal

pub returns : goal.returns
returns c = record { again = λ w v. world_loaded w v; apart = λ v w x y e. same_saves v w x y e }
