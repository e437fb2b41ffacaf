use Rattle.std.proofs.Common.{◌∙◌, ap, inl, map, refl}
use Rattle.scene_model.specs.World.{World, component_of}
use Rattle.scene_c.specs.Arguments.{entity_of}
use Rattle.scene_c.specs.Memory.{copied}
use Rattle.scene_c.specs.Reads.{cell_or_absent}
use Rattle.scene_c.proofs.open_scene.OpenScene.gather.Goals as goal

pub returns : goal.returns
returns c =
    inl (
      refl,
      c.fill_cells.ensures ∙ ap (λ (w : World). copied (map (λ e. cell_or_absent c.args.kind (component_of w (entity_of e) c.args.kind))
          c.args.entities.now) c.args.at.now) c.in-Some.ensures.world,
    )
