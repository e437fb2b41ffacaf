use Rattle.scene_editor.proofs.TwoWorlds.{changed_told, added_told}
use Rattle.scene_editor.proofs.since_cursor.lists_tell_two_worlds_apart.Goals as goal

pub returns-clause-changed : goal.returns-clause-changed
returns-clause-changed c = changed_told

pub returns-clause-added : goal.returns-clause-added
returns-clause-added c = added_told
