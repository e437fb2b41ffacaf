use Rattle.scene_machine.proofs.FrameKeeps.{frames_keep}
use Rattle.scene_machine.proofs.laws.frames_keep_worlds_valid.Goals as goal

pub returns : goal.returns
returns c = frames_keep
