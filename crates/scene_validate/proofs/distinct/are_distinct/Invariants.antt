use Rattle.scene_validate.proofs.Distinctness.{AreSeen}
use Rattle.scene_validate.proofs.distinct.are_distinct.Given as goal

abbrev pub invariant-loop-key : goal.invariant-loop-key
invariant-loop-key g l = AreSeen g.K.Ord.cmp l.keys l.key-index l.seen
