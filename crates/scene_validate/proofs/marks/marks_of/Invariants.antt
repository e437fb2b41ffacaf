use Rattle.scene_validate.proofs.Marking.{AreFront}
use Rattle.scene_validate.proofs.marks.marks_of.Given as goal

abbrev pub invariant-loop-index : goal.invariant-loop-index
invariant-loop-index l = AreFront l.count l.indices l.index-index l.marks.items
