use Rattle.scene_editor.proofs.MachinesGoOn.{machines_go_on}
use Rattle.scene_editor.proofs.laws.machines_go_on.Goals as goal

pub returns : goal.returns
returns c = machines_go_on
