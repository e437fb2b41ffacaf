use Rattle.std.proofs.Common.{◌≡◌}
use Rattle.scene_journal.proofs.CutRows.{UnderWay}
use Rattle.scene_journal.proofs.cuts.cut_each.Given as goal

abbrev pub invariant-loop-entity : goal.invariant-loop-entity
invariant-loop-entity l = UnderWay l.initial.world.room l.initial.world.world l.order l.entity-index l.world.world l.deltas.items × (l.world.room ≡ l.initial.world.room)
