use Rattle.std.proofs.Common.{◌∙◌, ap, List}
use Rattle.std.specs.Prelude.{slice_get}
use Rattle.std.proofs.lemmas.Option.{slice_get-map}
use Rattle.scene_kinds.specs.declared.entity.Entity.{Entity}
use Rattle.scene_kinds.specs.declared.cells.Row.{Row}
use Rattle.scene_archetypes.proofs.places.entity_at.Goals as goal

pub returns : goal.returns
returns c =
    c.entity_in.ensures ∙ ap (λ (es : List Entity). slice_get es c.args.place) c.entities.ensures ∙ slice_get-map (λ (row : Row). row.entity) c.args.table.now.rows c.args.place
