use Rattle.std.proofs.Common.{List, length}
use Rattle.scene_world.specs.Room.{IsWider}
use Rattle.scene_deltas.specs.declared.delta.Delta.{Delta}
use Rattle.scene_journal.proofs.SomeDeltas.{IsTakenTo}
use Rattle.scene_journal.proofs.drafts.undo_each.Given as goal

abbrev pub invariant-loop-delta : goal.invariant-loop-delta
invariant-loop-delta l =
    ((taken : List Delta) × IsTakenTo l.deltas.items l.initial.draft.world l.left l.draft.world taken) × IsWider l.initial.draft.room l.draft.room

abbrev pub decreases-loop-delta : goal.decreases-loop-delta
decreases-loop-delta l = length l.left
