use Rattle.std.proofs.Common.{◌≡◌, length}
use Rattle.scene_validate.specs.Parts.{resources_of}
use Rattle.scene_validate.specs.Seen.{named_seen}
use Rattle.scene_world.proofs.BuiltNames.{onto}
use Rattle.scene_world.proofs.built.build_resources.Given as goal

abbrev pub invariant-loop-name : goal.invariant-loop-name
invariant-loop-name l = onto (named_seen l.resources.items) l.built.cells ≡ resources_of (named_seen l.fn.resources.items)

abbrev pub decreases-loop-name : goal.decreases-loop-name
decreases-loop-name l = length l.resources.items
