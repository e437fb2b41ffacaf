use Rattle.std.proofs.Common.{◌∙◌, ap}
use Rattle.scene_validate.specs.Seen.{named_seen}
use Rattle.scene_world.proofs.BuiltNames.{onto, onto_empty, onto_next}
use Rattle.scene_world.proofs.built.build_resources.Goals as goal

pub loop-name-init : goal.loop-name-init
loop-name-init c = ap (onto (named_seen c.args.resources.items)) c.new-built.ensures.cells ∙ onto_empty (named_seen c.args.resources.items)

pub loop-name-preserved : goal.loop-name-preserved
loop-name-preserved c = onto_next _ _ c.in-Some.name _ c.in-Some.cell _ _ c.in-Some.ensures.items c.as_str.ensures.value c.in_ok-restore.ensures.done ∙ c.loop-name.invariant
