use Rattle.scene_deltas.proofs.Commands.{commands_lead}
use Rattle.scene_deltas.proofs.Counts.{commands_make_few}
use Rattle.scene_deltas.proofs.laws.commands_are_deltas.Goals as goal

pub returns : goal.returns
returns c = record { deltas = commands_lead; few = commands_make_few }
