use Rattle.scene_model.proofs.PartCommands.{put_sets_resource, remove_sets_resource, raise_sets_tick}
use Rattle.scene_model.proofs.raw_laws.resource_commands_are_raw_changes.Goals as goal

pub returns : goal.returns
returns c = record { put = put_sets_resource; remove = remove_sets_resource; raise = raise_sets_tick }
