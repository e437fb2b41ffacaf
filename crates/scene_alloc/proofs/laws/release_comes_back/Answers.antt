use Rattle.scene_alloc.specs.Slots.{retires}
use Rattle.scene_alloc.proofs.Moves.{unrelease-release, CanUnrelease-release, IsSlots-release}
use Rattle.scene_alloc.proofs.SlotParts.{release, unrelease}
use Rattle.scene_alloc.proofs.laws.release_comes_back.Goals as goal

pub returns-clause-state : goal.returns-clause-state
returns-clause-state c = λ s e can. unrelease-release s e ((release s e).0 can)

pub returns-clause-condition : goal.returns-clause-condition
returns-clause-condition c = λ s e v can. (unrelease _ e (retires e)).1 (CanUnrelease-release s e v ((release s e).0 can))

pub returns-clause-sound : goal.returns-clause-sound
returns-clause-sound c = λ s e v can. IsSlots-release s e v ((release s e).0 can)
