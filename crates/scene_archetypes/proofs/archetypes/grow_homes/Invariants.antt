use Rattle.std.proofs.Common.{◌-◌, length}
use Rattle.scene_archetypes.specs.Archetypes.{SameHomes}
use Rattle.scene_archetypes.proofs.archetypes.grow_homes.Given as goal

abbrev pub invariant-loop-homes : goal.invariant-loop-homes
invariant-loop-homes l = SameHomes l.initial.homes.items l.homes.items

abbrev pub decreases-loop-homes : goal.decreases-loop-homes
decreases-loop-homes l = l.count - length l.homes.items
