use Rattle.std.proofs.Common.{◌≡◌, ◌++◌, List, length}
use Rattle.scene_deltas.specs.declared.delta.Delta.{Delta}
use Rattle.scene_journal.specs.Newest.{IsWider, ListsBack}
use Rattle.scene_journal.proofs.Listed.{EachOf}
use Rattle.scene_journal.proofs.newest.NewestCells.take_back.Given as goal

abbrev pub invariant-loop-delta : goal.invariant-loop-delta
invariant-loop-delta l =
    ((gone : List Delta) × ((l.deltas.items ≡ gone ++ l.left) × EachOf (ListsBack l.self) gone)) × IsWider l.initial.self l.self

abbrev pub decreases-loop-delta : goal.decreases-loop-delta
decreases-loop-delta l = length l.left
