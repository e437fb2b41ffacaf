use Rattle.std.proofs.Common.{List, length}
use Rattle.scene_world.specs.Room.{IsWider}
use Rattle.scene_deltas.specs.declared.delta.Delta.{Delta}
use Rattle.scene_deltas.specs.Ready.{AreReady}
use Rattle.scene_journal.proofs.SomeDeltas.{IsTakenTo}
use Rattle.scene_journal.proofs.faults.undo_fitting.Given as goal

abbrev pub invariant-loop-delta : goal.invariant-loop-delta
invariant-loop-delta l =
    ((taken : List Delta) × (IsTakenTo l.deltas.items l.initial.draft.world l.left l.draft.world taken × AreReady l.draft.room taken l.initial.draft.world))
    × IsWider l.initial.draft.room l.draft.room

abbrev pub decreases-loop-delta : goal.decreases-loop-delta
decreases-loop-delta l = length l.left
