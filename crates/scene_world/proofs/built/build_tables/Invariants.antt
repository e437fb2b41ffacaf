use Rattle.std.proofs.Common.{length}
use Rattle.scene_validate.specs.Seen.{lists_seen}
use Rattle.scene_world.proofs.BuiltRows.{AreBuilt}
use Rattle.scene_world.proofs.built.build_tables.Given as goal

abbrev pub invariant-loop-mask : goal.invariant-loop-mask
invariant-loop-mask l = AreBuilt (lists_seen l.fn.tables.items) (lists_seen l.tables.items) l.built.tables

abbrev pub decreases-loop-mask : goal.decreases-loop-mask
decreases-loop-mask l = length l.tables.items
