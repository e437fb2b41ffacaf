use Rattle.scene_validate.proofs.SeenLists.{current_seen}
use Rattle.scene_validate.proofs.row_rules.rows_are_current.Goals as goal

pub returns : goal.returns
returns c = current_seen c.args.parts.now _ _ _ c.as_slice.ensures.value c.as_slice-2.ensures.value c.tables_are_current.ensures
