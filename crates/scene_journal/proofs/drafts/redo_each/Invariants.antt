use Rattle.std.proofs.Common.{List, length}
use Rattle.scene_world.specs.Room.{IsWider}
use Rattle.scene_deltas.specs.declared.delta.Delta.{Delta}
use Rattle.scene_journal.proofs.SomeDeltas.{IsMadeTo}
use Rattle.scene_journal.proofs.drafts.redo_each.Given as goal

abbrev pub invariant-loop-delta : goal.invariant-loop-delta
invariant-loop-delta l =
    ((made : List Delta) × IsMadeTo l.deltas.items l.initial.draft.world l.left l.draft.world made) × IsWider l.initial.draft.room l.draft.room

abbrev pub decreases-loop-delta : goal.decreases-loop-delta
decreases-loop-delta l = length l.left
