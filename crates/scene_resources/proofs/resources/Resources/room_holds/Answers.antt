use Rattle.scene_resources.proofs.Names.{holds_own}
use Rattle.scene_resources.proofs.resources.Resources.room_holds.Goals as goal

pub returns : goal.returns
returns c = holds_own c.self.inside.cells.entries c.args.self.now c.self.view_is
