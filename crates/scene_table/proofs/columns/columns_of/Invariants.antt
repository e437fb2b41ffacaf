use Rattle.scene_table.proofs.KindLists.{AreColumnsUpTo}
use Rattle.scene_table.proofs.columns.columns_of.Given as goal

abbrev pub invariant-loop-kind : goal.invariant-loop-kind
invariant-loop-kind l = AreColumnsUpTo l.mask l.kind l.columns.items
