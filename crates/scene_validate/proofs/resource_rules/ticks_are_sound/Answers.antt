use Rattle.scene_validate.proofs.SeenLists.{rows_untimely, ticks_told}
use Rattle.scene_validate.proofs.resource_rules.ticks_are_sound.Goals as goal

pub returns-then-not-tables_timely : goal.returns-then-not-tables_timely
returns-then-not-tables_timely c = rows_untimely c.args.parts.now _ _ c.as_slice.ensures.value c.tables_timely.ensures c.if-not-tables_timely.true

pub returns : goal.returns
returns c = ticks_told c.args.parts.now _ _ c.as_slice.ensures.value c.tables_timely.ensures c.if-not-tables_timely.false _ _ c.as_slice-2.ensures.value c.resources_timely.ensures
