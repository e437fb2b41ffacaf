use Rattle.std.proofs.Common.{take}
use Rattle.scene_table.proofs.TickBounds.{AllUpTo}
use Rattle.scene_table.proofs.changed.latest_of.Given as goal

abbrev pub invariant-loop-tick : goal.invariant-loop-tick
invariant-loop-tick l = AllUpTo l.latest (take l.tick-index l.ticks)
