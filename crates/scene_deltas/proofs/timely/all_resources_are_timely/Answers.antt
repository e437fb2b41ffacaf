use Rattle.std.proofs.Common.{◌∙◌, ap}
use Rattle.std.specs.List.{list_all}
use Rattle.std.specs.Prelude.{string_bytes}
use Rattle.scene_resources.specs.Resources.{cell_of, names_of}
use Rattle.scene_model.specs.Timely.{if_some}
use Rattle.scene_model.specs.Valid.{is_timely}
use Rattle.scene_deltas.proofs.TimelyCells.{names_told}
use Rattle.scene_deltas.proofs.timely.all_resources_are_timely.Goals as goal

pub returns : goal.returns
returns c =
    c.resources_are_timely.ensures
    ∙ (λ i. list_all (λ name. if_some (cell_of (c.resources-2.ensures i) (string_bytes name)) (is_timely c.args.tick)) (c.as_slice.ensures.value i))
    ∙ names_told c.args.world.now.world.resources c.args.tick string_bytes c.in_ok-names.names.items (c.in_ok-names.ensures ∙ ap names_of c.resources.ensures)
