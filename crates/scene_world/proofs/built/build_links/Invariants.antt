use Rattle.std.proofs.Common.{length}
use Rattle.scene_validate.specs.Seen.{lists_seen}
use Rattle.scene_world.proofs.BuiltLinks.{AreHung}
use Rattle.scene_world.proofs.built.build_links.Given as goal

abbrev pub invariant-loop-parent : goal.invariant-loop-parent
invariant-loop-parent l = AreHung (lists_seen l.fn.children.items) (lists_seen l.children.items) l.built.forest

abbrev pub decreases-loop-parent : goal.decreases-loop-parent
decreases-loop-parent l = length l.children.items
