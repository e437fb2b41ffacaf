use Rattle.scene_file.proofs.WorldBack.{world_back, same_world}
use Rattle.scene_file.proofs.laws.written_worlds_are_read_again.Goals as goal

pub returns : goal.returns
returns c = record { again = λ w v. world_back w v; apart = λ v w x y e. same_world v w x y e }
