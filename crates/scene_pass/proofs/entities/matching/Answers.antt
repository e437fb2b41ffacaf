use Rattle.std.proofs.Common.{ap, map, ◌∙◌}
use Rattle.std.specs.List.{flat_map}
use Rattle.scene_kinds.specs.declared.cells.Row.{Row}
use Rattle.scene_pass.proofs.RowSteps.{ok_same, entities_joined}
use Rattle.scene_pass.proofs.entities.matching.Goals as goal

pub returns : goal.returns
returns c =
    ok_same (λ entities. entities.items) c.entities_of.result _ _ c.entities_of.ensures
    (entities_joined (λ t. t.now.rows) c.as_slice.result.now ∙ ap (map (λ (row : Row). row.entity)) (ap (flat_map (λ t. t.now.rows)) c.as_slice.ensures.value ∙ c.in_ok-tables.ensures))
