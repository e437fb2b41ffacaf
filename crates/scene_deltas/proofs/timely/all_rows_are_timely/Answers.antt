use Rattle.std.proofs.Common.{◌∙◌, ap}
use Rattle.std.specs.List.{list_all}
use Rattle.scene_model.specs.Timely.{rows_are_timely}
use Rattle.scene_deltas.proofs.TimelyCells.{rows_told}
use Rattle.scene_deltas.proofs.timely.all_rows_are_timely.Goals as goal

pub returns : goal.returns
returns c =
    c.tables_are_timely.ensures
    ∙ ap (list_all (λ t. rows_are_timely c.args.tick t.now.rows)) c.as_slice.ensures.value
    ∙ rows_told c.args.world.now.world.tables c.args.tick c.in_ok-tables.tables.items c.in_ok-tables.ensures.rows
