use Rattle.scene_model.proofs.CommandKeeps.{commands_keep}
use Rattle.scene_model.proofs.MoveKeeps.{raise_keeps}
use Rattle.scene_model.proofs.laws.commands_keep_worlds_valid.Goals as goal

pub returns : goal.returns
returns c = record { commands = commands_keep; raise = raise_keeps }
