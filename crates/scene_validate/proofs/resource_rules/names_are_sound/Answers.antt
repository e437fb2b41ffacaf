use Rattle.scene_validate.proofs.SeenLists.{names_bad, names_told}
use Rattle.scene_validate.proofs.resource_rules.names_are_sound.Goals as goal

pub returns-then-not-names_good : goal.returns-then-not-names_good
returns-then-not-names_good c = names_bad c.args.parts.now _ _ c.as_slice-resources.ensures.value c.names_good.ensures c.if-not-names_good.true

pub returns : goal.returns
returns c = names_told c.args.parts.now _ _ c.as_slice-resources.ensures.value c.names_good.ensures c.if-not-names_good.false _ _ _ c.as_slice.ensures.value c.in_ok-names.ensures c.in_ok-distinct.ensures
