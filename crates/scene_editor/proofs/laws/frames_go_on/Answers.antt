use Rattle.scene_editor.proofs.FramesGoOn.{frames_go_on}
use Rattle.scene_editor.proofs.laws.frames_go_on.Goals as goal

pub returns : goal.returns
returns c = frames_go_on
