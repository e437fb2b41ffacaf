use Rattle.shared_scene.specs.Work.{HasEntered}
use Rattle.shared_scene.proofs.worker.advance_many.Given as goal

abbrev pub invariant-loop-done : goal.invariant-loop-done
invariant-loop-done g l = HasEntered l.done l.initial.session l.session
