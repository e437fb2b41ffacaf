use Rattle.scene_model.proofs.RowCommands.{spawn_puts, despawn_cuts, insert_shifts_or_sets, remove_shifts}
use Rattle.scene_model.proofs.PartCommands.{set_parent_sets_link, remove_parent_sets_link}
use Rattle.scene_model.proofs.raw_laws.commands_are_raw_changes.Goals as goal

pub returns : goal.returns
returns c = record {
  spawn = spawn_puts;
  despawn = despawn_cuts;
  insert = insert_shifts_or_sets;
  remove = remove_shifts;
  set_parent = set_parent_sets_link;
  remove_parent = remove_parent_sets_link;
}
