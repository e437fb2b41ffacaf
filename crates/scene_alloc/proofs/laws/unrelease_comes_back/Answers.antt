use Rattle.scene_alloc.proofs.Moves.{release-unrelease, CanRelease-unrelease, IsSlots-unrelease}
use Rattle.scene_alloc.proofs.SlotParts.{release, unrelease}
use Rattle.scene_alloc.proofs.laws.unrelease_comes_back.Goals as goal

pub returns-clause-state : goal.returns-clause-state
returns-clause-state c = λ s e retired can. release-unrelease s e retired ((unrelease s e retired).0 can)

pub returns-clause-condition : goal.returns-clause-condition
returns-clause-condition c = λ s e retired v can. (release _ e).1 (CanRelease-unrelease s e retired v ((unrelease s e retired).0 can))

pub returns-clause-sound : goal.returns-clause-sound
returns-clause-sound c = λ s e retired v can. IsSlots-unrelease s e retired v ((unrelease s e retired).0 can)
